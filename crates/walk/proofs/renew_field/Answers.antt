-- `walk::renew_field` meets its contract, place by place. Assumes nothing.
use Rattle.walk.specs.Renew.{renew_field}
use Rattle.walk.proofs.renew_field.Goals as goal

pub returns : goal.returns
unfolding renew_field
returns c = rw (c.renewed-8.ensures, c.renewed-7.ensures, c.renewed-6.ensures, c.renewed-5.ensures, c.renewed-4.ensures, c.renewed-3.ensures, c.renewed-2.ensures, c.renewed.ensures, c.from.ensures, c.from-2.ensures)
