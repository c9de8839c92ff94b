use Rattle.std.proofs.Common.{arith}
use borrow.Author.Tests.{le-leb, lt-leb}
use Rattle.bench_words.specs.Words.{digit}
use Rattle.bench_words.proofs.Words.{no_digit}
use Rattle.bench_words.proofs.digit_of.Goals as goal

pub returns-in-48-to-57 : goal.returns-in-48-to-57
unfolding digit
returns-in-48-to-57 c = (rw (le-leb 48 c.args.c (omega arith), le-leb c.args.c 57 (omega arith)), omega arith)

pub returns-in-65-to-70 : goal.returns-in-65-to-70
unfolding digit
returns-in-65-to-70 c =
    (rw (le-leb 48 c.args.c (omega arith), lt-leb c.args.c 57 (omega arith), le-leb 65 c.args.c (omega arith), le-leb c.args.c 70 (omega arith)) (omega arith), omega arith)

pub returns-in-97-to-102 : goal.returns-in-97-to-102
unfolding digit
returns-in-97-to-102 c =
    (rw (le-leb 48 c.args.c (omega arith), lt-leb c.args.c 57 (omega arith), le-leb 65 c.args.c (omega arith), lt-leb c.args.c 70 (omega arith), le-leb 97 c.args.c (omega arith), le-leb c.args.c 102 (omega arith)) (omega arith), omega arith)

pub returns-in_default : goal.returns-in_default
returns-in_default c = no_digit c.args.c (λ h. omega arith) (λ h. omega arith) (λ h. omega arith)

pub returns-in_default-2 : goal.returns-in_default-2
returns-in_default-2 c = no_digit c.args.c (λ h. omega arith) (λ h. omega arith) (λ h. omega arith)

pub returns-in_default-3 : goal.returns-in_default-3
returns-in_default-3 c = no_digit c.args.c (λ h. omega arith) (λ h. omega arith) (λ h. omega arith)

pub returns-in_default-4 : goal.returns-in_default-4
returns-in_default-4 c = no_digit c.args.c (λ h. omega arith) (λ h. omega arith) (λ h. omega arith)
