-- Demand 3: "two terminals that start alike and receive like events and calls, except for the digests in one active partition's password file and the passwords
-- in that partition's login and set-password calls".
use Rattle.std.specs.Prelude.{cond, List, [], map, ◌≡◌, ℕ, eqb}
use Rattle.octets.specs.Lists.{on_part}
use Rattle.octets.specs.declared.span.Span.{Span}
use Rattle.state.specs.Parts.{seat_at}
use Rattle.passwords.specs.PasswordFile.{mask_digests}
use Rattle.steps.specs.World.{World, Move}
use Rattle.steps.specs.World.Move.{ReadNext, ReadRandom, WriteNext, WriteRandom, Load, Store, Flush, Login, Who, Logout, SetPassword, Shutdown, Powerdown, Configuration, Key, Attention, Fault}

-- an area with the digests of the password file that stands there blanked
unfoldable pub blanked_at : Span → List ℕ → List ℕ
blanked_at s area = on_part s.place s.length mask_digests area

-- two worlds are the same but for the digests of partition q, on the store and in memory
pub record Alike (q : ℕ) (w v : World) : Type 0 where
  pub terminal : w.terminal ≡ v.terminal
  pub permissions : w.permissions ≡ v.permissions
  pub arena : w.arena ≡ v.arena
  pub screens : w.screens ≡ v.screens
  pub store : blanked_at (seat_at w.terminal.plan q).file w.store ≡ blanked_at (seat_at v.terminal.plan q).file v.store
  pub tables : blanked_at (seat_at w.terminal.plan q).table w.tables ≡ blanked_at (seat_at v.terminal.plan q).table v.tables

-- a move with the password taken out, where it is a login or a set-password of partition q
unfoldable pub hidden : ℕ → Move → Move
hidden q (ReadNext p major minor request buffer) = ReadNext p major minor request buffer
hidden q (ReadRandom p major minor offset request buffer) = ReadRandom p major minor offset request buffer
hidden q (WriteNext p major minor request bytes) = WriteNext p major minor request bytes
hidden q (WriteRandom p major minor offset request bytes) = WriteRandom p major minor offset request bytes
hidden q (Load p selector offset buffer) = Load p selector offset buffer
hidden q (Store p selector offset bytes) = Store p selector offset bytes
hidden q (Flush p selector taken) = Flush p selector taken
hidden q (Login p name password) = Login p name (cond (eqb p q) [] password)
hidden q (Who p buffer) = Who p buffer
hidden q (Logout p) = Logout p
hidden q (SetPassword p password taken) = SetPassword p (cond (eqb p q) [] password) taken
hidden q (Shutdown p message) = Shutdown p message
hidden q (Powerdown p) = Powerdown p
hidden q (Configuration p buffer) = Configuration p buffer
hidden q (Key byte) = Key byte
hidden q Attention = Attention
hidden q (Fault p device set) = Fault p device set

-- two lists of moves are the same but for the passwords in partition q's logins and set-passwords
abbrev pub AlikeMoves : ℕ → List Move → List Move → Type 0
AlikeMoves q ms ns = map (hidden q) ms ≡ map (hidden q) ns
