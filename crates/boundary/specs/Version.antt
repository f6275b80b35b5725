-- The version as C sees it: two decimal digits for each of its three parts.
use Rattle.std.specs.Prelude.{ℕ, ◌+◌, ◌*◌}

abbrev pub version : ℕ → ℕ → ℕ → ℕ
version major minor patch = (major * 100 + minor) * 100 + patch
