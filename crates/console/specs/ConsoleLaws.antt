-- Laws of the calls: one screen's change leaves the others alone, bytes drawn in two runs are drawn in one, the lent thing keeps its length, and what is refused changes nothing.
use Rattle.std.specs.Prelude.{Bool, true, false, cond, List, ◌++◌, ◌≡◌, refl, ℕ, ◌*◌, ◌≤◌, length, take}
use Rattle.std.proofs.Common.{inl, inr, ap, sym, ◌∙◌, arith}
use Rattle.std.proofs.Math.Decide.{dec_le}
use Rattle.octets.specs.Lists.{part, KeepsLength}
use Rattle.octets.specs.OnPartLaws.{Apart, on_part-same, on_part-twice, part-on_part-same, part-on_part-apart, length-on_part}
use Rattle.octets.specs.WriteLaws.{length_over}
use Rattle.checks.specs.Checks.{after}
use Rattle.checks.specs.Settle.{settle, by_settle}
use Rattle.devices.specs.Choice.{by_cond}
use Rattle.devices.specs.Queue.{take_out, queue_take}
use Rattle.devices.specs.Screen.{Screen, screen, put_all, on_screen, random_read, random_write}
use Rattle.devices.specs.ScreenLaws.{on_screen-put_all, length-on_screen}
use Rattle.devices.specs.TransferLaws.{length-read, length-write}
use Rattle.state.specs.declared.Partition.{Partition}
use Rattle.state.specs.Parts.{with_cursor}
use Rattle.console.specs.DeviceChecks.{device_checks}
use Rattle.console.specs.Console.{Outcome, refusal, keys_taken, read_next, cells_of, on_cells, cells_moved, read_random, written, write_random, Drawn, drawing, drawn, bytes_put, write_next}
use Rattle.console.specs.Halt.{shown_message, notice, halt}

-- ---- one screen of the area

-- what is done to partition p's screen leaves q's alone
pub cells-apart : (p q : ℕ) (f : List ℕ → List ℕ) → KeepsLength f → (screens : List ℕ) → (p ≡ q → ⊥) → cells_of q (on_cells p f screens) ≡ cells_of q screens
unfolding cells_of on_cells
cells-apart p q f keeps screens h = part-on_part-apart f keeps (2000 * p) 2000 (2000 * q) 2000 screens (go (dec_le p q))
  where
    go : Dec (p ≤ q) → Apart (2000 * p) 2000 (2000 * q) 2000
    go (yes l) = inl (omega arith)
    go (no l) = inr (omega arith)

-- ---- bytes on a screen

-- the cells that bytes leave
cells : List ℕ → ℕ → List ℕ → List ℕ
cells bytes cursor l = (on_screen (put_all bytes) (screen l cursor)).cells

cells-length : (bytes : List ℕ) (cursor : ℕ) → KeepsLength (cells bytes cursor)
unfolding cells
cells-length bytes cursor l = length-on_screen bytes (screen l cursor)

-- a run is its parts, one after the other
pub drawn-append : (a b : List ℕ) (p : ℕ) (x : Partition) (screens : List ℕ)
    → drawn (a ++ b) p x screens ≡ drawn b p (drawn a p x screens).part (drawn a p x screens).screens
unfolding drawn cells_of on_cells with_cursor cells
drawn-append a b p x screens =
    let l = part (2000 * p) 2000 screens in
    let c = x.cursor in
    let d = (on_screen (put_all a) (screen l c)).cursor in
    rw (
      part-on_part-same (cells a c) (cells-length a c) (2000 * p) 2000 screens,
      on_part-twice (cells a c) (cells-length a c) (2000 * p) 2000 (cells b d) screens,
      on_part-same (2000 * p) 2000 (cells (a ++ b) c) (λ y. cells b d (cells a c y)) screens (ap (λ (s : Screen). s.cells) (on_screen-put_all a b (screen l c))),
      on_screen-put_all a b (screen l c),
    )

-- "A faulty screen shows none of it"; another shows all
pub halt-faulty : (message : List ℕ) (p : ℕ) (x : Partition) (screens : List ℕ) → x.screenfault ≡ true → halt message p x screens ≡ drawing x screens
unfolding halt
halt-faulty message p x screens e = ap (λ (t : Bool). cond t (drawing x screens) (drawn (shown_message message ++ notice) p x screens)) e

pub halt-shown : (message : List ℕ) (p : ℕ) (x : Partition) (screens : List ℕ) → x.screenfault ≡ false
    → halt message p x screens ≡ drawn (shown_message message ++ notice) p x screens
unfolding halt
halt-shown message p x screens e = ap (λ (t : Bool). cond t (drawing x screens) (drawn (shown_message message ++ notice) p x screens)) e

-- ---- the lent thing keeps its length

pub length-drawn : (bytes : List ℕ) (p : ℕ) (x : Partition) (screens : List ℕ) → length (drawn bytes p x screens).screens ≡ length screens
unfolding drawn on_cells cells
length-drawn bytes p x screens = length-on_part (cells bytes x.cursor) (cells-length bytes x.cursor) (2000 * p) 2000 screens

pub length-halt : (message : List ℕ) (p : ℕ) (x : Partition) (screens : List ℕ) → length (halt message p x screens).screens ≡ length screens
unfolding halt
length-halt message p x screens =
    by_cond (λ (d : Drawn). length d.screens ≡ length screens) x.screenfault (λ e. refl) (λ e. length-drawn (shown_message message ++ notice) p x screens)

-- of a call it is enough to know what is done where nothing is refused
length-settle : (m : ℕ) (done : Outcome) (x : Partition) (lent : List ℕ) → length done.lent ≡ length lent → length (settle m done (refusal m x lent)).lent ≡ length lent
unfolding refusal
length-settle m done x lent e = by_settle (λ (o : Outcome). length o.lent ≡ length lent) m (λ h. e) (λ h. refl)

pub length-read_next : (n : ℕ) (x : Partition) (p major minor request : ℕ) (buffer : List ℕ) → length (read_next n x p major minor request buffer).lent ≡ length buffer
unfolding read_next keys_taken queue_take take_out
length-read_next n x p major minor request buffer =
    length-settle _ (keys_taken x (queue_take request x.keyboard buffer)) x buffer (length_over _ buffer)

pub length-read_random : (n : ℕ) (x : Partition) (p major minor offset request : ℕ) (screens buffer : List ℕ)
    → length (read_random n x p major minor offset request screens buffer).lent ≡ length buffer
unfolding read_random cells_moved
length-read_random n x p major minor offset request screens buffer =
    length-settle _ (cells_moved x (random_read offset request (cells_of p screens) buffer)) x buffer (length-read offset request (cells_of p screens) buffer)

pub length-write_random : (n : ℕ) (x : Partition) (p major minor offset request : ℕ) (bytes screens : List ℕ)
    → length (write_random n x p major minor offset request bytes screens).lent ≡ length screens
unfolding write_random cells_moved written on_cells
length-write_random n x p major minor offset request bytes screens =
    length-settle _ (cells_moved x (written p offset request bytes screens)) x screens
    (length-on_part (λ (l : List ℕ). (random_write offset request bytes l).after) (length-write offset request bytes) (2000 * p) 2000 screens)

pub length-write_next : (n : ℕ) (x : Partition) (p major minor request : ℕ) (bytes screens : List ℕ)
    → length (write_next n x p major minor request bytes screens).lent ≡ length screens
unfolding write_next bytes_put
length-write_next n x p major minor request bytes screens =
    length-settle _ (bytes_put request (drawn (take request bytes) p x screens)) x screens (length-drawn (take request bytes) p x screens)

-- ---- a refused call changes nothing

-- the answer is the chain's number m, and where that is not 0 there is the refusal and nothing else
abbrev pub Answers : ℕ → Partition → List ℕ → Outcome → Type 0
Answers m x lent o = (o.reply.number ≡ m) × ((m ≡ 0 → ⊥) → o ≡ refusal m x lent)

answers : (m : ℕ) (done : Outcome) (x : Partition) (lent : List ℕ) → done.reply.number ≡ 0 → Answers m x lent (settle m done (refusal m x lent))
unfolding refusal
answers m done x lent e = by_settle (Answers m x lent) m (λ h. (e ∙ sym h, λ f. absurd (f h))) (λ h. (refl, λ f. refl))

pub read_next-answers : (n : ℕ) (x : Partition) (p major minor request : ℕ) (buffer : List ℕ)
    → Answers (after n (device_checks false false x p major minor 0 request (length buffer))) x buffer (read_next n x p major minor request buffer)
unfolding read_next keys_taken
read_next-answers n x p major minor request buffer = answers _ (keys_taken x (queue_take request x.keyboard buffer)) x buffer refl

pub read_random-answers : (n : ℕ) (x : Partition) (p major minor offset request : ℕ) (screens buffer : List ℕ)
    → Answers (after n (device_checks true false x p major minor offset request (length buffer))) x buffer (read_random n x p major minor offset request screens buffer)
unfolding read_random cells_moved
read_random-answers n x p major minor offset request screens buffer = answers _ (cells_moved x (random_read offset request (cells_of p screens) buffer)) x buffer refl

pub write_random-answers : (n : ℕ) (x : Partition) (p major minor offset request : ℕ) (bytes screens : List ℕ)
    → Answers (after n (device_checks true true x p major minor offset request (length bytes))) x screens (write_random n x p major minor offset request bytes screens)
unfolding write_random cells_moved
write_random-answers n x p major minor offset request bytes screens = answers _ (cells_moved x (written p offset request bytes screens)) x screens refl

pub write_next-answers : (n : ℕ) (x : Partition) (p major minor request : ℕ) (bytes screens : List ℕ)
    → Answers (after n (device_checks false true x p major minor 0 request (length bytes))) x screens (write_next n x p major minor request bytes screens)
unfolding write_next bytes_put
write_next-answers n x p major minor request bytes screens = answers _ (bytes_put request (drawn (take request bytes) p x screens)) x screens refl
