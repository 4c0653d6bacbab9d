-- The bytes are read after their number.
use Rattle.files.proofs.Readings.{GivesSome-trans}
use Rattle.test_listings.proofs.bytes.Goals as goal

pub returns-in_err-fill_bytes-clause-left : goal.returns-in_err-fill_bytes-clause-left
returns-in_err-fill_bytes-clause-left g c = GivesSome-trans _ _ _ c.length.ensures.left c.fill_bytes.ensures.left

pub returns-clause-left : goal.returns-clause-left
returns-clause-left g c = GivesSome-trans _ _ _ c.length.ensures.left c.fill_bytes.ensures.left
