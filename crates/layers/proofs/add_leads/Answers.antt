use native.Mathlib.Omega.{arith}
use mathlib.Core.Path.{ap}
use mathlib.Core.List.{[], ◌∷◌, ◌++◌}
use Rattle.meaning.specs.Card.{Feed}
use Rattle.bench_lines.proofs.Text.{adds_then}
use Rattle.layers.specs.TreeText.{feed_words}
use Rattle.layers.proofs.Words.{adds_same}
use Rattle.layers.proofs.add_leads.Goals as goal

pub returns : goal.returns
returns c =
    let found = c.find_name-leaf in
    let feed = c.add_feed-at in
    let end = c.add in
    record {
      adds = adds_same (ap (λ (f : Feed). feed_words f ++ (10 ∷ [])) found.ensures) (adds_then feed.ensures.adds end.ensures);
      upper_bound = omega (arith, feed.ensures.upper_bound, end.ensures.count);
    }
