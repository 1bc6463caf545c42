-- `make_tag` is right because the tag is what the steps of the standard give one after the other.
-- Assumes nothing.
use mathlib.Core.Path.{refl}
use Rattle.block.specs.Halves.{value}
use Rattle.gcm.proofs.Tagging.{tag_made}
use Rattle.gcm.proofs.steps.make_tag.Goals as goal

pub returns : goal.returns
returns c = let given = c.args in
    tag_made given.expanded.now given.iv given.additional.now given.text.now c.encipher-subkey.result
    c.store-s.result _ _ (value c.load.result) (value c.hash.result) (value c.first_counter.result) refl
    c.encipher-subkey.ensures c.load.ensures c.hash.ensures c.store-s.ensures
    c.first_counter.ensures c.apply.ensures
