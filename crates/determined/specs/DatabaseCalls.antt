-- Crate database: two results that one contract allows are equal. A theorem for each public function, in the order of the source.
use Rattle.std.specs.Prelude.{List, ◌≡◌, ℕ}
use Rattle.state.specs.declared.Plan.{Plan}
use Rattle.checks.specs.Told.{told}
use Rattle.database.specs.Database.{configuration as Database·configuration}
use Rattle.determined.specs.Determined.{AtMostOne, by_told}

pub configuration : (n : ℕ) (plan : Plan) (permissions : List (List ℕ)) (partition : ℕ) (store buffer : List ℕ)
    → AtMostOne (λ (x : ℕ × List ℕ). told x.0 x.1 ≡ Database·configuration n plan permissions store partition buffer)
configuration n plan permissions partition store buffer = by_told _
