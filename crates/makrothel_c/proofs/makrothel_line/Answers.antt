-- `makrothel_line` meets its contract: it hands on where the line lies.
use Rattle.makrothel.proofs.Laws.{told_there, told_none}
use Rattle.makrothel_c.proofs.makrothel_line.Goals as goal

pub returns-in-Some : goal.returns-in-Some
returns-in-Some c =
    let told = told_there _ _ _ c.in-Some.ensures in
    record { found = told.0; span = told.1.0; part = told.1.1 }

pub returns-in-None : goal.returns-in-None
returns-in-None c =
    let told = told_none _ _ c.in-None.ensures in
    record { found = told.0; span = told.1.0; part = told.1.1 }
