-- `text::Writer::put_bytes` meets its contract. The invariant: the bytes before this one are written.
use Rattle.std.proofs.Common.{take}
use Rattle.text.specs.Text.{bytes_text}
use Rattle.text.specs.Wrote.{Wrote}
use Rattle.text.proofs.Writer.put_bytes.Given as goal

abbrev pub invariant-loop-b : goal.invariant-loop-b
invariant-loop-b l = Wrote l.fn.self (bytes_text (take l.b-index l.bytes)) l.self
