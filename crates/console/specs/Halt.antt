-- What shutdown shows on the caller's screen.
use Rattle.std.specs.Prelude.{cond, ◌&&◌, List, [], ◌∷◌, ◌++◌, ℕ, leb, ltb, length, take}
use Rattle.octets.specs.Search.{index_of}
use Rattle.state.specs.declared.Partition.{Partition}
use Rattle.console.specs.Console.{Drawn, drawing, drawn}

-- the place of the first zero at place 0 to 80; where there is none, how many bytes were looked at
unfoldable pub message_end : List ℕ → ℕ
message_end m = index_of 0 (take 81 m)

-- "a message whose first zero stands at place 1 to 80 is next-written .. up to that zero; any other is skipped"
unfoldable pub shown_message : List ℕ → List ℕ
shown_message m = cond (leb 1 (message_end m) && ltb (message_end m) (length (take 81 m))) (take (message_end m) m) []

-- "byte 10 and "SYSTEM HALTED""
unfoldable pub notice : List ℕ
notice = 10 ∷ 83 ∷ 89 ∷ 83 ∷ 84 ∷ 69 ∷ 77 ∷ 32 ∷ 72 ∷ 65 ∷ 76 ∷ 84 ∷ 69 ∷ 68 ∷ []

-- the message, "Then, always," the notice, on partition p's screen; "A faulty screen shows none of it"
unfoldable pub halt : List ℕ → ℕ → Partition → List ℕ → Drawn
halt message p x screens = cond x.screenfault (drawing x screens) (drawn (shown_message message ++ notice) p x screens)
