use Rattle.std.proofs.Common.{◌*◌, ◌≤◌, take}
use Rattle.memory.specs.Memory.{card_of}
use Rattle.bench_lines.specs.Text.{Adds}
use Rattle.layers.specs.TreeText.{line_space}
use Rattle.layers.specs.Shown.{trees_text}
use Rattle.layers.proofs.put_trees.Given as goal

abbrev pub invariant-loop-i : goal.invariant-loop-i
invariant-loop-i l = record {
  short : l.at ≤ line_space * l.i;
  adds : Adds (trees_text (card_of l.numbers l.names) (take l.i (card_of l.numbers l.names).trees)) l.initial.text l.text 0 l.at;
}
