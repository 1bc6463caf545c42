-- `window_ok` is right because it asks the window's rule of an operational body, and nothing of another.
-- Assumes nothing.
use Rattle.bodies.proofs.body.window_ok.Goals as goal

pub returns : goal.returns
returns c = rw (c.window_fits.ensures, c.window_of.ensures, c.state_of.ensures)
