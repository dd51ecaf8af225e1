-- Each refusal has a number of its own, and none has 0.
use Rattle.std.specs.Prelude.{cond, false, ◌≡◌, refl, ℕ, eqb, Option, Some, None}
use Rattle.std.proofs.Common.{sym, ap, ◌∙◌, ne_eqb}
use Rattle.checks.specs.Refusals.{number_of}
use Rattle.checks.specs.declared.refusal.Refusal.{Refusal}
use Rattle.checks.specs.declared.refusal.Refusal.TheVariants as refusal

-- the refusal that has a number
abbrev pub named : ℕ → Option Refusal
named n =
    cond (eqb n 201) (Some refusal.NotMapped) (
    cond (eqb n 202) (Some refusal.NoWrite) (
    cond (eqb n 203) (Some refusal.WriteFailure) (
    cond (eqb n 204) (Some refusal.BadMajor) (
    cond (eqb n 205) (Some refusal.BadMinor) (
    cond (eqb n 206) (Some refusal.NoData) (
    cond (eqb n 207) (Some refusal.ReadFailure) (
    cond (eqb n 208) (Some refusal.NotRandom) (
    cond (eqb n 209) (Some refusal.BadOffset) (
    cond (eqb n 210) (Some refusal.DeviceEnd) (
    cond (eqb n 211) (Some refusal.BadSelector) (
    cond (eqb n 212) (Some refusal.Stopped) (
    cond (eqb n 213) (Some refusal.BadPartition) (
    cond (eqb n 214) (Some refusal.BadBuffer) (
    cond (eqb n 216) (Some refusal.BadState) (
    cond (eqb n 300) (Some refusal.AuthFailure) (
    cond (eqb n 301) (Some refusal.LoginBusy) (
    cond (eqb n 302) (Some refusal.InvalidString) (
    cond (eqb n 303) (Some refusal.NoLogin) (
    cond (eqb n 401) (Some refusal.Setup) (
    cond (eqb n 402) (Some refusal.TextLong) (
    cond (eqb n 403) (Some refusal.BadStore) (
    cond (eqb n 404) (Some refusal.Syntax) (
    cond (eqb n 405) (Some refusal.TooMany) (
    cond (eqb n 406) (Some refusal.BadIndex) (
    cond (eqb n 407) (Some refusal.BadPartitionNumber) (
    cond (eqb n 408) (Some refusal.DupCode) (
    cond (eqb n 409) (Some refusal.DupPath) (
    cond (eqb n 410) (Some refusal.Reserved) (
    cond (eqb n 411) (Some refusal.NoFile) (
    cond (eqb n 412) (Some refusal.BadSize) (
    cond (eqb n 413) (Some refusal.BadPerms) (
    cond (eqb n 414) (Some refusal.NoCode) (
    cond (eqb n 415) (Some refusal.NoMemory) (
    cond (eqb n 416) (Some refusal.BadPasswords) (
    None)))))))))))))))))))))))))))))))))))

pub its_own : (r : Refusal) → named (number_of r) ≡ Some r
its_own refusal.NotMapped = refl
its_own refusal.NoWrite = refl
its_own refusal.WriteFailure = refl
its_own refusal.BadMajor = refl
its_own refusal.BadMinor = refl
its_own refusal.NoData = refl
its_own refusal.ReadFailure = refl
its_own refusal.NotRandom = refl
its_own refusal.BadOffset = refl
its_own refusal.DeviceEnd = refl
its_own refusal.BadSelector = refl
its_own refusal.Stopped = refl
its_own refusal.BadPartition = refl
its_own refusal.BadBuffer = refl
its_own refusal.BadState = refl
its_own refusal.AuthFailure = refl
its_own refusal.LoginBusy = refl
its_own refusal.InvalidString = refl
its_own refusal.NoLogin = refl
its_own refusal.Setup = refl
its_own refusal.TextLong = refl
its_own refusal.BadStore = refl
its_own refusal.Syntax = refl
its_own refusal.TooMany = refl
its_own refusal.BadIndex = refl
its_own refusal.BadPartitionNumber = refl
its_own refusal.DupCode = refl
its_own refusal.DupPath = refl
its_own refusal.Reserved = refl
its_own refusal.NoFile = refl
its_own refusal.BadSize = refl
its_own refusal.BadPerms = refl
its_own refusal.NoCode = refl
its_own refusal.NoMemory = refl
its_own refusal.BadPasswords = refl

some-same : {A : Type 0} (a b : A) → Some a ≡ Some b → a ≡ b
some-same a b e = cc

pub number-same : (a b : Refusal) → number_of a ≡ number_of b → a ≡ b
number-same a b e = some-same a b (sym (its_own a) ∙ ap named e ∙ its_own b)

none-is_some : {A : Type 0} (a : A) → None ≡ Some a → ⊥
none-is_some a e = cc

pub number-not_zero : (r : Refusal) → number_of r ≡ 0 → ⊥
number-not_zero r e = none-is_some r (ap named (sym e) ∙ its_own r)

pub some_number : (r : Refusal) → eqb (number_of r) 0 ≡ false
some_number r = ne_eqb (number_of r) 0 (number-not_zero r)
