-- `trails::open_trail` meets its contract. Assumes nothing.
use mathlib.Core.Path.{refl}
use Rattle.walk.specs.Reading.{all_open}
use Rattle.trails.specs.Trail.{open_trail}
use Rattle.trails.proofs.open_trail.Goals as goal

pub returns : goal.returns
unfolding open_trail all_open
returns c = refl
