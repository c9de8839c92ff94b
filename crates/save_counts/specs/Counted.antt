-- The table with the counts of every root worked out. Assumes nothing.
use Rattle.meaning.specs.Card.{Card, with_routes}
use Rattle.meaning_save.specs.Save.{all_worked_out}

unfoldable pub counted : Card → Card
counted c = with_routes (all_worked_out c.trees c.routes) c
