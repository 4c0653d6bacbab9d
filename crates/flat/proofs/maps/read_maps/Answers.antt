-- `flat::maps::read_maps` meets its contract.
use Rattle.flat.proofs.maps.read_maps.Goals as goal

pub returns : goal.returns
returns c = rw c.of_good.ensures at c.maps_of.ensures
