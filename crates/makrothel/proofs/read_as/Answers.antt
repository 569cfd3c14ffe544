-- `makrothel::read_as` meets its contract: it hands on what is handed back under the answer, and the counts.
use Rattle.makrothel.proofs.read_as.Goals as goal

pub returns : goal.returns
returns c = cc
