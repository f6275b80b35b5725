pub mod Spelt
pub mod SpeltNumbers
pub mod SpeltTimes
pub mod Tables
pub mod Escapes
pub mod Faulty
