-- What the use of a label says of its name. Assumes nothing.
use Prim.Native.Nat.{ℕ}
use mathlib.Core.Path.{◌≡◌, refl}
use mathlib.Core.Bool.{true, false}
use mathlib.Core.List.{List}
use Rattle.meaning.specs.Octets.{all}
use Rattle.meaning.specs.Card.{Card, is_free}
use Rattle.meaning_save.specs.Save.{Form, is_short, is_short_tree, is_short_use, fits_save}
use Rattle.memory.specs.Memory.{label_name, label_in}
use Rattle.memory.proofs.Marks.{by-use}

module _ (f : Form) (ns os : List ℕ) (p : ℕ) where
  pub free-short : is_free (label_in ns os p) ≡ true → is_short_use f (label_in ns os p) ≡ true
  unfolding is_short_use is_free
  free-short e =
      by-use ns p os
      (λ k. rw k refl)
      (λ n h k. let z : false ≡ true = rw k at e in cc)
      (λ n k. let z : false ≡ true = rw k at e in cc)

  pub used-short : is_free (label_in ns os p) ≡ false → is_short_use f (label_in ns os p) ≡ is_short f (label_name os p)
  unfolding is_short_use is_free
  used-short e =
      by-use ns p os
      (λ k. let z : true ≡ false = rw k at e in cc)
      (λ n h k. rw k refl)
      (λ n k. rw k refl)

module _ (f : Form) (c : Card) where
  pub fits_not : all (is_short_tree f) c.trees ≡ false → fits_save f c ≡ false
  unfolding fits_save
  fits_not e = rw e refl

  pub fits-rest : all (is_short_tree f) c.trees ≡ true → fits_save f c ≡ all (is_short_use f) c.labels
  unfolding fits_save
  fits-rest e = rw e refl
