-- A row without a right adds nothing, another one entry.
use Rattle.database.specs.LaidLaws.{row-none, row_one}

pub ruleset row_rules = (row-none, row_one)
