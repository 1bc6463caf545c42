use Rattle.lines.proofs.HexadecimalLaws.{Reading}
use Rattle.lines.proofs.hexadecimal.read_octets.Given as goal

abbrev pub invariant-loop-i : goal.invariant-loop-i
invariant-loop-i l = Reading l.text l.initial.out l.out l.i
