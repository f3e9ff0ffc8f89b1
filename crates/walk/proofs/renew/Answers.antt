-- `walk::renew` meets its contract, field by field. Assumes nothing.
use Rattle.walk.specs.Renew.{renew_of}
use Rattle.walk.proofs.renew.Goals as goal

pub returns : goal.returns
unfolding renew_of
returns c = rw (c.renew_field-6.ensures, c.renew_field-5.ensures, c.renew_field-4.ensures, c.renew_field-3.ensures, c.renew_field-2.ensures, c.renew_field.ensures)
