use mathlib.Core.Path.{refl}
use Rattle.meaning_save.specs.Save.{form_of}
use Rattle.save_forms.proofs.use_kind.Goals as goal

pub returns-then-second : goal.returns-then-second
unfolding form_of
returns-then-second c = rw c.if-second.true refl

pub returns-else-second : goal.returns-else-second
unfolding form_of
returns-else-second c = rw c.if-second.false refl
