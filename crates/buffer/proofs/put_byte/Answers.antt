-- `buffer::put_byte` meets its contract.
use Rattle.buffer.proofs.Stores.{put_one, put-beyond}
use Rattle.buffer.proofs.put_byte.Goals as goal

pub returns-then-pos-out : goal.returns-then-pos-out
returns-then-pos-out c = put_one _ _ _

pub returns-else-pos-out : goal.returns-else-pos-out
returns-else-pos-out c = put-beyond _ _ _ c.if-pos-out.false
