-- A row of octets that are taken as a save, or refused by 19, and when it is right. The crate `meaning_save_rows` has tables of them.
-- Assumes nothing.
use Rattle.std.specs.Prelude.{ℕ, suc, Bool, true, false, ◌&&◌, List, [], ◌∷◌, eqb}
use Rattle.meaning.specs.Octets.{pick, same}
use Rattle.meaning.specs.Card.{fresh}
use Rattle.meaning_save.specs.Save.{Form, saved, restore}

-- Octets, and whether they are taken. Where they are, the table that stands afterwards writes them; where they are not, the answer is 19 and the table that stood, of base 99, stays.
pub record Row : Type 0 where
  pub octets : List ℕ
  pub taken : Bool

abbrev pub takes : List ℕ → Row
takes o = record { octets = o; taken = true }

abbrev pub refuses : List ℕ → Row
refuses o = record { octets = o; taken = false }

unfoldable pub right : Form → Row → Bool
right f r =
    let o = restore f r.octets (fresh 99) in
    let gives = eqb o.answer 0 && same (saved f o.card) r.octets in
    let stays = eqb o.answer 19 && eqb o.card.base 99 in
    pick r.taken gives stays

-- the numbers of the rows, counted from n, that the definitions answer otherwise
unfoldable pub wrong : Form → ℕ → List Row → List ℕ
wrong f n [] = []
wrong f n (r ∷ rs) =
    let later = wrong f (suc n) rs in
    let here = n ∷ later in
    pick (right f r) later here
