pub mod OneSeen
