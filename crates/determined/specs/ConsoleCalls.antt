-- Crate console: two results that one contract allows are equal. A theorem for each public function, in the order of the source.
use Rattle.std.specs.Prelude.{List, ◌≡◌, refl, ℕ}
use Rattle.state.specs.declared.Partition.{Partition}
use Rattle.console.specs.declared.Reply.{Reply}
use Rattle.console.specs.Console.{Outcome, Drawn, drawing, outcome, read_next, write_next, read_random, write_random}
use Rattle.console.specs.Halt.{halt as Halt·halt}
use Rattle.determined.specs.Determined.{AtMostOne, by_reading}

-- a partition and the screen area
by_drawing : (z : Drawn) → AtMostOne (λ (x : Partition × List ℕ). drawing x.0 x.1 ≡ z)
by_drawing = by_reading _ (λ (z : Drawn). (z.part, z.screens)) (λ x. refl)

-- a reply and the one lent thing that the call may write
by_outcome : (z : Outcome) → AtMostOne (λ (x : Reply × List ℕ). outcome x.0 x.1 ≡ z)
by_outcome = by_reading _ (λ (z : Outcome). (z.reply, z.lent)) (λ x. refl)

pub halt : (part : Partition) (partition : ℕ) (message screens : List ℕ)
    → AtMostOne (λ (x : Partition × List ℕ). drawing x.0 x.1 ≡ Halt·halt message partition part screens)
halt part partition message screens = by_drawing _

pub read_next_lem : (n : ℕ) (part : Partition) (partition major minor request : ℕ) (buffer : List ℕ)
    → AtMostOne (λ (x : Reply × List ℕ). outcome x.0 x.1 ≡ read_next n part partition major minor request buffer)
read_next_lem n part partition major minor request buffer = by_outcome _

pub write-next : (n : ℕ) (part : Partition) (partition major minor request : ℕ) (bytes screens : List ℕ)
    → AtMostOne (λ (x : Reply × List ℕ). outcome x.0 x.1 ≡ write_next n part partition major minor request bytes screens)
write-next n part partition major minor request bytes screens = by_outcome _

pub read_random_lem : (n : ℕ) (part : Partition) (partition major minor offset request : ℕ) (screens buffer : List ℕ)
    → AtMostOne (λ (x : Reply × List ℕ). outcome x.0 x.1 ≡ read_random n part partition major minor offset request screens buffer)
read_random_lem n part partition major minor offset request screens buffer = by_outcome _

pub write_random_lem : (n : ℕ) (part : Partition) (partition major minor offset request : ℕ) (bytes screens : List ℕ)
    → AtMostOne (λ (x : Reply × List ℕ). outcome x.0 x.1 ≡ write_random n part partition major minor offset request bytes screens)
write_random_lem n part partition major minor offset request bytes screens = by_outcome _
