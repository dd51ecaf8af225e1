-- Crate memory: two results that one contract allows are equal. A theorem for each public function, in the order of the source.
use Rattle.std.specs.Prelude.{Bool, cond, List, ◌≡◌, refl, ℕ, eqb}
use Rattle.state.specs.declared.Plan.{Plan}
use Rattle.memory.specs.declared.Reach.{Reach}
use Rattle.statements.specs.declared.Permission.{Permission}
use Rattle.statements.specs.declared.Permission.TheVariants.{NoAccess, ReadOnly, ReadWrite}
use Rattle.checks.specs.Told.{told}
use Rattle.memory.specs.Memory.{load as Memory·load, store as Memory·store, flush as Memory·flush}
use Rattle.statements.specs.Statements.{number_of}
use Rattle.memory.specs.Rights.{right_of, reach as Rights·reach}
use Rattle.determined.specs.Determined.{AtMostOne, plain, by_reading, by_told}

pub load : (n : ℕ) (reach : Reach) (offset : ℕ) (arena buffer : List ℕ)
    → AtMostOne (λ (x : ℕ × List ℕ). told x.0 x.1 ≡ Memory·load n reach offset arena buffer)
load n reach offset arena buffer = by_told _

pub store : (n : ℕ) (reach : Reach) (offset : ℕ) (bytes arena : List ℕ)
    → AtMostOne (λ (x : ℕ × List ℕ). told x.0 x.1 ≡ Memory·store n reach offset bytes arena)
store n reach offset bytes arena = by_told _

pub flush : (n : ℕ) (reach : Reach) (taken : ℕ) (arena store : List ℕ)
    → AtMostOne (λ (x : ℕ × List ℕ). told x.0 x.1 ≡ Memory·flush n reach taken arena store)
flush n reach taken arena store = by_told _

-- a right has one number
of_number : ℕ → Permission
of_number n = cond (eqb n 1) ReadOnly (cond (eqb n 2) ReadWrite NoAccess)

read_back : (x : Permission) → of_number (number_of x) ≡ x
unfolding of_number
read_back NoAccess = refl
read_back ReadOnly = refl
read_back ReadWrite = refl

pub right : (plan : Plan) (permissions : List (List ℕ)) (row partition : ℕ) → AtMostOne (λ (x : Permission). number_of x ≡ right_of plan permissions row partition)
right plan permissions row partition = by_reading number_of of_number read_back _

pub reach : (plan : Plan) (permissions : List (List ℕ)) (partition selector : ℕ)
    → AtMostOne (λ (x : Reach). x ≡ Rights·reach plan permissions partition selector)
reach plan permissions partition selector = plain _
