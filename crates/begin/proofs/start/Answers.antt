-- `begin::start` meets its contract: the first refusal that is due is the answer. Assumes nothing.
use Rattle.std.proofs.Common.{◌≡◌, List, ℕ, Ok, Err, refl, rules}
use Rattle.checks.specs.Refusals.{number_of}
use Rattle.checks.specs.Numbers.{number-not_zero}
use Rattle.setup.specs.Views.{outcome_of}
use Rattle.begin.specs.Start.{Begun, Beginning, beginning}
use Rattle.begin.specs.StartLaws.{refused-early, refused-text, text-good}
use Rattle.begin.proofs.start.Goals as goal

-- what was lent is what came back in the struct
lent_back : (b : Begun) (z : Beginning) {arena tables screens arena' tables' screens' : List ℕ} {permissions permissions' : List (List ℕ)} → arena' ≡ arena → tables' ≡ tables
    → screens' ≡ screens → permissions' ≡ permissions → beginning b arena tables screens permissions ≡ z → beginning b arena' tables' screens' permissions' ≡ z
lent_back b z e f g h told = rw (e, f, g, h) told

pub returns-in_err-early : goal.returns-in_err-early
returns-in_err-early c = let args = c.args in
    let r = c.in_err-early.field-0.0 in
    let result : c.from_residual.result ≡ Err (record { refusal = r; line = 0 }) = search rules in
    rw result
    (refused-early args.soft args.text.now args.store.now args.arena.now args.tables.now args.screens.now args.permissions.now
    args.count args.active (number_of r) c.in_err-early.ensures (number-not_zero r))

pub returns-in_err-setup : goal.returns-in_err-setup
returns-in_err-setup c = let args = c.args in
    let r = c.in_err-setup.field-0.0 in
    let result : c.from_residual-in_err-setup.result ≡ Err r = search rules in
    rw result
    (refused-text args.soft args.text.now args.store.now args.arena.now args.tables.now args.screens.now args.permissions.now
    args.count args.active 0 c.in_ok-early.ensures refl (outcome_of (Err r)) c.in_err-setup.ensures (number-not_zero r.refusal))

pub returns : goal.returns
returns c = let args = c.args in
    let told = text-good args.soft args.text.now args.store.now args.arena.now args.tables.now args.screens.now args.permissions.now
    args.count args.active 0 c.in_ok-early.ensures refl (outcome_of (Ok c.in_ok-setup.setup)) c.in_ok-setup.ensures _ refl c.set_up.ensures.outcome in
    lent_back _ _ (search rules) (search rules) (search rules) (search rules) told
