-- The number of each refusal, and that of an outcome.
use Rattle.std.specs.Prelude.{ℕ, eqb, cond, Result, Ok, Err}
use Rattle.checks.specs.declared.refusal.Refusal.{Refusal}
use Rattle.checks.specs.declared.refusal.Refusal.TheVariants as refusal

abbrev pub number_of : Refusal → ℕ
number_of refusal.NotMapped = 201
number_of refusal.NoWrite = 202
number_of refusal.WriteFailure = 203
number_of refusal.BadMajor = 204
number_of refusal.BadMinor = 205
number_of refusal.NoData = 206
number_of refusal.ReadFailure = 207
number_of refusal.NotRandom = 208
number_of refusal.BadOffset = 209
number_of refusal.DeviceEnd = 210
number_of refusal.BadSelector = 211
number_of refusal.Stopped = 212
number_of refusal.BadPartition = 213
number_of refusal.BadBuffer = 214
number_of refusal.BadState = 216
number_of refusal.AuthFailure = 300
number_of refusal.LoginBusy = 301
number_of refusal.InvalidString = 302
number_of refusal.NoLogin = 303
number_of refusal.Setup = 401
number_of refusal.TextLong = 402
number_of refusal.BadStore = 403
number_of refusal.Syntax = 404
number_of refusal.TooMany = 405
number_of refusal.BadIndex = 406
number_of refusal.BadPartitionNumber = 407
number_of refusal.DupCode = 408
number_of refusal.DupPath = 409
number_of refusal.Reserved = 410
number_of refusal.NoFile = 411
number_of refusal.BadSize = 412
number_of refusal.BadPerms = 413
number_of refusal.NoCode = 414
number_of refusal.NoMemory = 415
number_of refusal.BadPasswords = 416

-- 0 where nothing was refused
abbrev pub answer : {A : Type 0} → Result A Refusal → ℕ
answer (Ok x) = 0
answer (Err r) = number_of r

-- n, or the outcome's number where nothing was refused before
abbrev pub behind : {A : Type 0} → ℕ → Result A Refusal → ℕ
behind n outcome = cond (eqb n 0) (answer outcome) n
