-- Crate guard: two results that one contract allows are equal. A theorem for each public function, in the order of the source.
use Rattle.std.specs.Prelude.{Bool, ◌≡◌, ℕ, Result}
use Rattle.checks.specs.Refusals.{answer}
use Rattle.checks.specs.declared.refusal.Refusal.{Refusal}
use Rattle.state.specs.declared.Plan.{Plan}
use Rattle.state.specs.declared.State.{State}
use Rattle.guard.specs.Guard.{guard as Guard·guard}
use Rattle.guard.specs.Events.{key as Events·key, attention as Events·attention, fault as Events·fault}
use Rattle.guard.specs.Test.{good as Test·good}
use Rattle.determined.specs.Determined.{AtMostOne, plain, by_answer}

pub guard : (plan : Plan) (state : State) (wrong : Bool) (partition : ℕ) → AtMostOne (λ (x : Result (Unit {0}) Refusal). answer x ≡ Guard·guard plan state wrong partition)
guard plan state wrong partition = by_answer _

pub key : (plan : Plan) (state : State) (byte : ℕ) → AtMostOne (λ (x : State). x ≡ Events·key byte plan state)
key plan state byte = plain _

pub attention : (plan : Plan) (state : State) → AtMostOne (λ (x : State). x ≡ Events·attention plan state)
attention plan state = plain _

pub fault : (plan : Plan) (state : State) (partition device : ℕ) (set : Bool)
    → AtMostOne (λ (x : State). x ≡ Events·fault partition device set plan state)
fault plan state partition device set = plain _

pub good : (plan : Plan) (state : State) → AtMostOne (λ (x : Bool). x ≡ Test·good plan state)
good plan state = plain _
