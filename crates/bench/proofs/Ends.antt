-- One turn more, and what is seen when the loop has ended. `s` is what was started, and `first` its answer.
use Rattle.std.proofs.Common.{◌≡◌, refl, List, [], ℕ, ◌+◌, add-one}
use Rattle.terminal.specs.declared.Terminal.{Terminal}
use Rattle.terminal.specs.declared.Answer.{Answer}
use Rattle.terminal.specs.Terminal.{Outcome, outcome}
use Rattle.terminal.specs.AccountCalls.{Written, written}
use Rattle.bench.specs.Scene.{Scene, scene, seen}
use Rattle.bench.specs.Turns.{turns, with_answer, answer_after, with_screens, screens_after, with_arena, arena_after, with_lent, lent_after, with_written, written_after, scene_after, events_after}

pub none_yet : {A : Type 0} (step : A → A) (a : A) → a ≡ turns 0 step a
unfolding turns
none_yet step a = refl

pub once_more : {A : Type 0} (step : A → A) (i : ℕ) (first now next : A) → now ≡ turns i step first → next ≡ step now → next ≡ turns (i + 1) step first
unfolding turns
once_more step i first now next e f = rw (add-one i, f, e) refl

pub answer_end : (step : Scene → Answer → Answer) {n i : ℕ} (s : Scene) (first last : Answer) (arena tables screens : List ℕ) (permissions : List (List ℕ)) → i ≡ n →
    scene first arena tables screens permissions ≡ s →
    last ≡ turns i (step (scene first arena tables screens permissions)) first →
    seen last.number arena tables screens [] ≡ answer_after n step s
unfolding answer_after with_answer
answer_end step s first last arena tables screens permissions e begun inv = rw (← begun, ← e, ← inv) refl

pub screens_end : (step : Scene → Outcome → Outcome) {n i : ℕ} (s : Scene) (first last : Answer) (arena tables screens₀ screens : List ℕ) (permissions : List (List ℕ)) → i ≡ n →
    scene first arena tables screens₀ permissions ≡ s →
    outcome last screens ≡ turns i (step (scene first arena tables screens₀ permissions)) (outcome first screens₀) →
    seen last.number arena tables screens [] ≡ screens_after n step s
unfolding screens_after with_screens
screens_end step s first last arena tables screens₀ screens permissions e begun inv = rw (← begun, ← e, ← inv) refl

pub arena_end : (step : Scene → Outcome → Outcome) {n i : ℕ} (s : Scene) (first last : Answer) (arena₀ arena tables screens : List ℕ) (permissions : List (List ℕ)) → i ≡ n →
    scene first arena₀ tables screens permissions ≡ s →
    outcome last arena ≡ turns i (step (scene first arena₀ tables screens permissions)) (outcome first arena₀) →
    seen last.number arena tables screens [] ≡ arena_after n step s
unfolding arena_after with_arena
arena_end step s first last arena₀ arena tables screens permissions e begun inv = rw (← begun, ← e, ← inv) refl

pub lent_end : (step : Scene → Outcome → Outcome) {n i : ℕ} (s : Scene) (first last : Answer) (arena tables screens lent₀ lent : List ℕ) (permissions : List (List ℕ)) → i ≡ n →
    scene first arena tables screens permissions ≡ s →
    outcome last lent ≡ turns i (step (scene first arena tables screens permissions)) (outcome first lent₀) →
    seen last.number arena tables screens lent ≡ lent_after n step lent₀ s
unfolding lent_after with_lent
lent_end step s first last arena tables screens lent₀ lent permissions e begun inv = rw (← begun, ← e, ← inv) refl

pub written_end : (step : Scene → Written → Written) {n i : ℕ} (s : Scene) (first last : Answer) (arena tables₀ tables screens store₀ store : List ℕ) (permissions : List (List ℕ)) → i ≡ n →
    scene first arena tables₀ screens permissions ≡ s →
    written last store tables ≡ turns i (step (scene first arena tables₀ screens permissions)) (written first store₀ tables₀) →
    seen last.number arena tables screens store ≡ written_after n step store₀ s
unfolding written_after with_written
written_end step s first last arena tables₀ tables screens store₀ store permissions e begun inv = rw (← begun, ← e, ← inv) refl

pub scene_end : (step : Scene → Scene) {n i : ℕ} (s : Scene) (first last : Answer) (arena₀ arena tables₀ tables screens₀ screens : List ℕ) (permissions₀ permissions : List (List ℕ)) → i ≡ n →
    scene first arena₀ tables₀ screens₀ permissions₀ ≡ s →
    scene last arena tables screens permissions ≡ turns i step (scene first arena₀ tables₀ screens₀ permissions₀) →
    seen last.number arena tables screens [] ≡ scene_after n step s
unfolding scene_after with_answer
scene_end step s first last arena₀ arena tables₀ tables screens₀ screens permissions₀ permissions e begun inv = rw (← begun, ← e, ← inv) refl

pub events_end : (step : Terminal → Terminal) (call : Terminal → Outcome) {n i : ℕ} (s : Scene) (first : Answer) (last : Terminal) (o : Outcome) (arena tables screens : List ℕ) (permissions : List (List ℕ)) → i ≡ n →
    scene first arena tables screens permissions ≡ s → last ≡ turns i step first.terminal → o ≡ call last →
    seen o.answer.number arena tables screens o.lent ≡ events_after n step call s
unfolding events_after with_lent
events_end step call s first last o arena tables screens permissions e begun inv f = rw (← begun, ← e, ← inv, f) refl
