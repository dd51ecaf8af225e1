-- `begin::set_up` meets its contract: nothing is written before 415 and 416 were judged, and then all of it. Assumes nothing.
use Rattle.std.proofs.Common.{◌≡◌, Err, refl, rules}
use Rattle.checks.specs.Refusals.{number_of}
use Rattle.checks.specs.Numbers.{number-not_zero}
use Rattle.begin.specs.StartLaws.{arena-room, tables-room, refused_late, all_filled}
use Rattle.begin.proofs.set_up.Goals as goal

pub returns-in_err-late-clause-outcome : goal.returns-in_err-late-clause-outcome
returns-in_err-late-clause-outcome c = let args = c.args in
    let areas = args.areas.now in
    let files = c.find-files in
    let r = c.in_err-late.field-0.0 in
    let result : c.from_residual.result ≡ Err (record { refusal = r; line = 0 }) = search rules in
    rw result
    (refused_late args.soft args.text.now args.store.now areas.arena.now areas.tables.now areas.screens.now areas.permissions.now
    args.setup.now files.result.dsegs files.result.passwords files.ensures.dsegs files.ensures.passwords (number_of r) c.in_err-late.ensures
    (number-not_zero r))

pub plan_of-plan-requires-clause-files_bound : goal.plan_of-plan-requires-clause-files_bound
plan_of-plan-requires-clause-files_bound c = arena-room _ _ _ c.args.store.now _ _ _ c.in_ok-late.ensures

pub plan_of-plan-requires-clause-passwords_bound : goal.plan_of-plan-requires-clause-passwords_bound
plan_of-plan-requires-clause-passwords_bound c = tables-room _ _ _ c.args.store.now _ _ _ c.in_ok-late.ensures

pub returns-clause-outcome : goal.returns-clause-outcome
returns-clause-outcome c = let args = c.args in
    let areas = args.areas.now in
    let files = c.find-files in
    all_filled args.soft args.text.now args.store.now areas.arena.now areas.tables.now areas.screens.now areas.permissions.now
    args.setup.now files.result.dsegs files.result.passwords files.ensures.dsegs files.ensures.passwords 0 c.in_ok-late.ensures refl
    c.plan_of-plan.result c.plan_of-plan.ensures c.first_state.result c.first_state.ensures
    c.fill_arena.new.arena c.fill_tables.new.tables c.clear_screens.new.screens c.permission_table-areas.result
    c.fill_arena.ensures c.fill_tables.ensures c.clear_screens.ensures c.permission_table-areas.ensures
