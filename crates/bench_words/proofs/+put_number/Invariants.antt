-- The measure of the recursion of `put_number`: the number.
use Rattle.bench_words.proofs.+put_number.Given as goal

abbrev pub decreases-put_number : goal.decreases-put_number
decreases-put_number l = l.n
