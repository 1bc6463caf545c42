use Rattle.std.proofs.Common.{◌≡◌, ℕ, ◌<◌, drop}
use Rattle.octets.specs.Lists.{octet}
use Rattle.lines.proofs.input.read_line.Given as goal

abbrev pub invariant-loop-n : goal.invariant-loop-n
invariant-loop-n g l =
    record {
      no_line_feed : (k : ℕ) → k < l.n → octet l.line k ≡ 10 → ⊥;
      others_stay : drop l.n l.line ≡ drop l.n l.initial.line;
    }
