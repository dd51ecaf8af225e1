-- A count of bytes, or the largest number of 64 bits where the output is too short: C has no enum that holds a number.
use Rattle.std.specs.Prelude.{Result, Ok, Err, ℕ, ◌-◌, ◌^◌}
use Rattle.lister.specs.declared.Short.{Short}

abbrev pub counted : Result ℕ Short → ℕ
counted (Ok n) = n
counted (Err short) = 2 ^ 64 - 1
