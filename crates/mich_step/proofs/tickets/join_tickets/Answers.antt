use Rattle.mich_step.proofs.Splitting.{join_fits}
use Rattle.mich_step.proofs.tickets.join_tickets.Goals as goal

pub take_tickets-requires : goal.take_tickets-requires
take_tickets-requires c = (c.requires.fits.2.0, join_fits c.requires.fits.0 c.requires.fits.1 _ c.requires.fits.2.1)
