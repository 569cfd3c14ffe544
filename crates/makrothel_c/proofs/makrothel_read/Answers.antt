-- `makrothel_read` meets its contract: it hands on what `read` answers.
use Rattle.std.proofs.Common.{ap}
use Rattle.makrothel.specs.declared.ReadAnswer.{ReadAnswer}
use Rattle.makrothel.specs.C.{place_and_counts}
use Rattle.makrothel_c.proofs.makrothel_read.Goals as goal

pub returns : goal.returns
unfolding place_and_counts
returns c =
    let e = c.read-a.ensures in
    record { number = ap (λ (a : ReadAnswer). a.number) e; numbers = let same = ap place_and_counts e in cc }
