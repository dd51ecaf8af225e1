-- Crate lister: two results that one contract allows are equal. A theorem for each public function, in the order of the source.
use Rattle.std.specs.Prelude.{Result, List, ◌≡◌, refl, ℕ}
use Rattle.lister.specs.declared.Short.{Short}
use Rattle.lister.specs.Listing.{Listed, result_of, listed}
use Rattle.determined.specs.Determined.{AtMostOne, by_reading}

-- how many bytes were written, and the output
by_result : (z : Listed) → AtMostOne (λ (x : Result ℕ Short × List ℕ). result_of x.0 x.1 ≡ z)
by_result = by_reading _ (λ (z : Listed). (z.written, z.output)) (λ x. refl)

pub listing : (input output : List ℕ) → AtMostOne (λ (x : Result ℕ Short × List ℕ). result_of x.0 x.1 ≡ listed input output)
listing input output = by_result _
