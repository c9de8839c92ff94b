use Rattle.std.proofs.Common.{◌≡◌, refl, ◌∙◌, sym, arith, get_or, drop, ◌+◌, ◌*◌, ◌-◌}
use Rattle.bench_words.specs.Words.{is_digit}
use Rattle.bench_words.proofs.Words.{all_more, all-stop, all_end, value-more, value-end, value_grows, number-letter, number-large, number_is}
use Rattle.bench_words.proofs.read_number.Goals as goal

pub returns-then-not-is_ascii_digit : goal.returns-then-not-is_ascii_digit
returns-then-not-is_ascii_digit c =
    sym (number-letter _ (c.loop-c.invariant.digits ∙ all-stop is_digit _ _ c.loop-c-test.true (sym c.is_ascii_digit.ensures.value ∙ c.if-not-is_ascii_digit.true)))

pub returns-in_err-checked_mul : goal.returns-in_err-checked_mul
returns-in_err-checked_mul c =
    let w = c.args.word.now in
    let i = c.loop-c.c-index in
    let v = c.loop-c.value in
    let q = c.loop-c.invariant.sum ∙ value-more w i v c.loop-c-test.true in
    let g = value_grows (drop (i + 1) w) (v * 10 + (get_or w i 0 - 48)) in
    c.from_residual.ensures ∙ sym (number-large w (omega (arith, c.in_err-checked_mul.ensures)))

pub returns-in_err-value : goal.returns-in_err-value
returns-in_err-value c =
    let w = c.args.word.now in
    let i = c.loop-c.c-index in
    let v = c.loop-c.value in
    let q = c.loop-c.invariant.sum ∙ value-more w i v c.loop-c-test.true in
    let g = value_grows (drop (i + 1) w) (v * 10 + (get_or w i 0 - 48)) in
    c.from_residual-in_err-value.ensures ∙ sym (number-large w (omega (arith, c.in_err-value.ensures, c.in_ok-checked_mul.ensures, c.from.ensures)))

pub loop-c-preserved : goal.loop-c-preserved
loop-c-preserved c =
    let w = c.args.word.now in
    let i = c.loop-c.c-index in
    let v = c.loop-c.value in
    let h = c.loop-c-test.true in
    let a : v * 10 + (get_or w i 0 - 48) ≡ c.in_ok-value.value = omega (arith, c.in_ok-value.ensures, c.in_ok-checked_mul.ensures, c.from.ensures) in
    record {
      small = omega (arith, c.in_ok-value.ensures);
      digits = c.loop-c.invariant.digits ∙ all_more is_digit w i h (sym c.is_ascii_digit.ensures.value ∙ c.if-not-is_ascii_digit.false);
      sum = c.loop-c.invariant.sum ∙ value-more w i v h ∙ rw a refl;
    }

pub returns : goal.returns
returns c =
    let w = c.args.word.now in
    let h = c.loop-c-test.false in
    sym (number_is w _ (c.loop-c.invariant.digits ∙ all_end is_digit w _ h) (c.loop-c.invariant.sum ∙ value-end w _ _ h) c.loop-c.invariant.small)
