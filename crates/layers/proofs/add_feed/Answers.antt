use native.Mathlib.Omega.{arith}
use Rattle.bench_words.specs.Words.{ascii}
use Rattle.bench_lines.proofs.Text.{feed-adds}
use Rattle.layers.specs.TreeText.{branches_words, leaf_words, feed_words}
use Rattle.layers.proofs.add_feed.Goals as goal

pub returns : goal.returns
unfolding feed_words leaf_words branches_words ascii
returns c =
    let the-add-if = c.add_if-at in
    let the-add-sixteen = c.add_sixteen-at in
    record {
      adds = feed-adds _ the-add-if.ensures.adds the-add-sixteen.ensures.adds c.add_if.ensures.adds;
      upper_bound = omega (arith, the-add-if.ensures.upper_bound, the-add-sixteen.ensures.upper_bound, c.add_if.ensures.upper_bound);
    }
