-- `flat::elements::read_elements` meets its contract.
use Rattle.flat.proofs.elements.read_elements.Goals as goal

pub returns : goal.returns
returns c = rw c.of_good.ensures at c.elements_of.ensures
