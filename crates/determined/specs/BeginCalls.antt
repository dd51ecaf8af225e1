-- Crate begin: two results that one contract allows are equal. A theorem for each public function, in the order of the source.
use Rattle.std.specs.Prelude.{Bool, List, ◌≡◌, refl, ℕ, Result, Ok, Err, Option, Some, None}
use Rattle.checks.specs.declared.refusal.Refusal.{Refusal}
use Rattle.setup.specs.declared.Refused.{Refused}
use Rattle.begin.specs.declared.Begun.{Begun}
use Rattle.begin.specs.Start.{Beginning, beginning, begun_of, start as Start·start}
use Rattle.determined.specs.Determined.{AtMostOne, by_reading}
use Rattle.checks.specs.Numbers.{named, its_own}

-- what a start answers, and everything it may write
abbrev answered : Option Refusal → Beginning → Result Begun Refused
answered None z = Ok (record { plan = z.plan; state = z.state })
answered (Some r) z = Err (record { refusal = r; line = z.line })

abbrev read_back : Beginning → Result Begun Refused × List ℕ × List ℕ × List ℕ × List (List ℕ)
read_back z = (answered (named z.number) z, z.arena, z.tables, z.screens, z.permissions)

same : (r : Result Begun Refused) (arena tables screens : List ℕ) (permissions : List (List ℕ))
    → read_back (beginning (begun_of r) arena tables screens permissions) ≡ (r, arena, tables, screens, permissions)
same (Ok b) arena tables screens permissions = refl
same (Err r) arena tables screens permissions = rw (its_own r.refusal)

by_beginning : (z : Beginning)
    → AtMostOne (λ (x : Result Begun Refused × List ℕ × List ℕ × List ℕ × List (List ℕ)). beginning (begun_of x.0) x.1 x.2 x.3 x.4 ≡ z)
by_beginning = by_reading _ read_back (λ x. same x.0 x.1 x.2 x.3 x.4)

pub start : (count : ℕ) (active : List Bool) (soft : Bool) (text store arena tables screens : List ℕ) (permissions : List (List ℕ))
    → AtMostOne (λ (x : Result Begun Refused × List ℕ × List ℕ × List ℕ × List (List ℕ)). beginning (begun_of x.0) x.1 x.2 x.3 x.4
    ≡ Start·start count active soft text store arena tables screens permissions)
start count active soft text store arena tables screens permissions = by_beginning _
