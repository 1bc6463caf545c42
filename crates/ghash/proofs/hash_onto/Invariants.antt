use Rattle.std.proofs.Common.{◌≡◌, ℕ, length}
use Rattle.std.specs.Slice.Iter.{chunks_rest, chunks_size}
use Rattle.ghash.specs.Ghash.{ghash_from}
use Rattle.block.specs.Lengths.{blocks}
use Rattle.block.specs.Halves.{value}
use Rattle.ghash.specs.Table.{IsTableOf}
use Rattle.ghash.proofs.hash_onto.Given as goal

abbrev pub invariant-loop-piece : goal.invariant-loop-piece
invariant-loop-piece l = (chunks_size l.piece-iterator ≡ 16)
    × ((h : ℕ) → IsTableOf h l.t → ghash_from h (blocks (length (chunks_rest l.piece-iterator))) (value l.z) (chunks_rest l.piece-iterator) ≡ ghash_from h (blocks (length l.s)) (value l.initial.z) l.s)
