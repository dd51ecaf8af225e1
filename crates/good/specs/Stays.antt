-- What no step changes: the plan, and of the store where each file stands and how long it all is.
use Rattle.std.specs.Prelude.{Bool, true, false, ◌||◌, List, ◌≡◌, refl, ℕ, eqb, length, Some}
use Rattle.std.proofs.Common.{◌∙◌, eqb-true}
use Rattle.std.proofs.lemmas.Bool.{eqb-false}
use Rattle.octets.specs.Lists.{over, on_part}
use Rattle.octets.specs.WriteLaws.{length_over}
use Rattle.octets.specs.Spans.{span}
use Rattle.image.specs.Image.{spot}
use Rattle.image.specs.SpotLaws.{on_file-at}
use Rattle.image.specs.ChangeLaws.{length-on_file, spot-on_file}
use Rattle.checks.specs.Checks.{after}
use Rattle.checks.specs.Settle.{by_settle}
use Rattle.checks.specs.Told.{Told}
use Rattle.state.specs.declared.LoginRecord.{LoginRecord}
use Rattle.state.specs.Parts.{is_active, seat_at}
use Rattle.memory.specs.Rights.{row_of, reach}
use Rattle.memory.specs.Memory.{flush}
use Rattle.accounts.specs.SetPassword.{set_checks, set_password}
use Rattle.accounts.specs.AccountLaws.{set-refused}
use Rattle.begin.specs.Files.{password_path}
use Rattle.terminal.specs.Terminal.{unmoved, record_of, table_of, file_of, guard_of, differs, tables_wrong}
use Rattle.terminal.specs.MemoryCalls as memory
use Rattle.terminal.specs.AccountCalls as accounts
use Rattle.promises.proofs.Lengths.{step-keeps_frame}
use Rattle.steps.specs.World.{World, Move, ReadNext, ReadRandom, WriteNext, WriteRandom, Load, Store, Flush, Login, Who, Logout, SetPassword, Shutdown, Powerdown, Configuration, Key, Attention, Fault, fills, answers, becomes, step}
use Rattle.good.specs.Good.{plan_of, Good}
use Rattle.good.specs.MemoryMoves.{reached}
use Rattle.good.specs.PasswordMoves.{none_before, guard-active, unchanged}

-- ---- the plan

pub plan-step : (w : World) (m : Move) → plan_of (step w m).world ≡ plan_of w
plan-step w m = (step-keeps_frame w m).terminal.plan

-- ---- the store

-- every file, by its path, stands where it stood, and there are as many bytes
pub record SameSpots (old new : List ℕ) : Type 0 where
  pub spots : (path : List ℕ) → spot path new ≡ spot path old
  pub long : length new ≡ length old

pub spots-refl : (l : List ℕ) → SameSpots l l
spots-refl l = record { spots = λ path. refl; long = refl }

pub spots-trans : (a b c : List ℕ) → SameSpots a b → SameSpots b c → SameSpots a c
spots-trans a b c h k = record { spots = λ path. k.spots path ∙ h.spots path; long = k.long ∙ h.long }

-- a write over a file
written-spots : (path store : List ℕ) (at n : ℕ) (new : List ℕ) → spot path store ≡ Some (span at n) → SameSpots store (on_part at n (over new) store)
written-spots path store at n new found =
    rw (← on_file-at store (over new) path at n found)
    (record { spots = spot-on_file (over new) (length_over new) path store; long = length-on_file (over new) (length_over new) path store })

module _ (w : World) (g : Good w) where
  flush-spots : (p selector taken : ℕ) → SameSpots w.store (step w (Flush p selector taken)).world.store
  unfolding step answers memory.flush unmoved flush reach
  flush-spots p selector taken =
      by_settle (λ (o : Told). SameSpots w.store o.lent) _
      (λ e. let m = g.mapped (row_of selector) (reached (plan_of w) w.permissions _ p selector e) in written-spots m.path w.store _ _ _ m.found)
      (λ e. spots-refl w.store)

  module _ (p : ℕ) where
    -- the store with the caller's file replaced
    abbrev With : List ℕ → List ℕ
    With file = on_part (seat_at (plan_of w) p).file.place (seat_at (plan_of w) p).file.length (over file) w.store

    same-file : SameSpots w.store (With (file_of w.terminal p w.store))
    unfolding file_of
    same-file = rw (unchanged (seat_at (plan_of w) p).file.place (seat_at (plan_of w) p).file.length w.store) (spots-refl w.store)

    renewed-spots : (n : ℕ) (r : LoginRecord) (password : List ℕ) (taken : ℕ) (table : List ℕ) → (n ≡ 0 → is_active (plan_of w) p ≡ true)
        → SameSpots w.store (With (set_password n r password taken (file_of w.terminal p w.store) table).file)
    renewed-spots n r password taken table active = go (eqb (after n (set_checks r password)) 0) refl
      where
        go : (t : Bool) → eqb (after n (set_checks r password)) 0 ≡ t
            → SameSpots w.store (With (set_password n r password taken (file_of w.terminal p w.store) table).file)
        go true e =
            let a = active (none_before n (set_checks r password) (eqb-true (after n (set_checks r password)) 0 e)) in
            written-spots (password_path p) w.store _ _ _ (g.seated p a).found
        go false e = rw (set-refused n r password taken (file_of w.terminal p w.store) table (eqb-false (after n (set_checks r password)) 0 e)) same-file

    set_password_spots : (password : List ℕ) (taken : ℕ) → SameSpots w.store (step w (SetPassword p password taken)).world.store
    unfolding step answers accounts.set_password accounts.replaced
    set_password_spots password taken =
        let t = w.terminal in
        let wrong = differs w.store t.plan.kept.store || tables_wrong t p w.tables in
        renewed-spots (guard_of t wrong p) (record_of t p) password taken (table_of t p w.tables) (guard-active t wrong p)

pub spots-step : (w : World) (m : Move) → Good w → SameSpots w.store (step w m).world.store
unfolding step fills answers becomes
spots-step w (ReadNext p major minor request buffer) g = spots-refl w.store
spots-step w (ReadRandom p major minor offset request buffer) g = spots-refl w.store
spots-step w (WriteNext p major minor request bytes) g = spots-refl w.store
spots-step w (WriteRandom p major minor offset request bytes) g = spots-refl w.store
spots-step w (Load p selector offset buffer) g = spots-refl w.store
spots-step w (Store p selector offset bytes) g = spots-refl w.store
spots-step w (Flush p selector taken) g = flush-spots w g p selector taken
spots-step w (Login p name password) g = spots-refl w.store
spots-step w (Who p buffer) g = spots-refl w.store
spots-step w (Logout p) g = spots-refl w.store
spots-step w (SetPassword p password taken) g = set_password_spots w g p password taken
spots-step w (Shutdown p message) g = spots-refl w.store
spots-step w (Powerdown p) g = spots-refl w.store
spots-step w (Configuration p buffer) g = spots-refl w.store
spots-step w (Key byte) g = spots-refl w.store
spots-step w Attention g = spots-refl w.store
spots-step w (Fault p device set) g = spots-refl w.store
