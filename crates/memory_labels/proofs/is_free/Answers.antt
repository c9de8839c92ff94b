use Rattle.std.proofs.Common.{◌≡◌, ◌/◌, ◌%◌, ◌^◌, eqb, sym, refl, ◌∙◌}
use Rattle.octets.specs.Bits.{bit}
use Rattle.memory.specs.Memory.{word_at, is_free_at}
use Rattle.memory.proofs.Marks.{free_in}
use Rattle.memory_labels.proofs.is_free.Goals as goal

pub returns : goal.returns
returns c =
    let ns = c.args.numbers.now in
    let e : eqb (word_at ns (c.args.p / 64) / 2 ^ (c.args.p % 64) % 2) 1 ≡ is_free_at ns c.args.p = unfold is_free_at bit in refl in
    (e, λ os. e ∙ sym (free_in ns c.args.p os))
