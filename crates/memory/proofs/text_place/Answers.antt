use Prim.Native.Nat.{ℕ, ◌+◌}
use native.Mathlib.Omega.{arith}
use native.Mathlib.Nat.{le_refl}
use mathlib.Core.Path.{◌≡◌, sym, ap}
use mathlib.Core.List.{List}
use lib.ListN.{length, take}
use lib.Seq.{take_all}
use Rattle.octets.proofs.Tab.{none_more}
use Rattle.memory.proofs.Columns.{space-within, none_before, compared}
use Rattle.memory.proofs.text_place.Goals as goal

-- the part that is lent on is all of s
whole : (s : List ℕ) → take (length s) s ≡ s
whole s = take_all (length s) s (le_refl _)

pub slice_bounds-t-end : goal.slice_bounds-t-end
slice_bounds-t-end c = sym (ap length (whole c.args.s.now))

pub loop-i-init : goal.loop-i-init
loop-i-init c = (omega arith, λ j h. absurd (omega arith))

pub next_like-j-requires : goal.next_like-j-requires
next_like-j-requires c = (c.requires.0, c.loop-i.invariant.0, c.requires.1)

pub returns-then-n-j : goal.returns-then-n-j
returns-then-n-j c =
    let l = c.loop-i in
    let found = rw (whole c.args.s.now) at c.next_like-j.ensures.2 in
    (omega arith, λ j h. none_before _ l.i _ l.invariant.1 found j (omega (arith, h, c.if-n-j.true)), λ h. absurd (omega (arith, h)))

pub overflow_mul-j : goal.overflow_mul-j
overflow_mul-j c =
    let here = space-within c.next_like-j.result c.args.n (c.args.k + 1) (omega (arith, c.if-n-j.false)) in
    let all = c.requires.1.2 in
    omega (arith, here, all)

pub overflow_add-from : goal.overflow_add-from
overflow_add-from c =
    let here = space-within c.next_like-j.result c.args.n (c.args.k + 1) (omega (arith, c.if-n-j.false)) in
    let all = c.requires.1.2 in
    omega (arith, here, all)

pub text-requires : goal.text-requires
text-requires c =
    let here = space-within c.next_like-j.result c.args.n (c.args.k + 1) (omega (arith, c.if-n-j.false)) in
    let all = c.requires.1.2 in
    let long = c.requires.0 in
    omega (arith, here, all, long)

pub returns-then-equal : goal.returns-then-equal
returns-then-equal c =
    let l = c.loop-i in
    let found = c.next_like-j.ensures in
    let none = rw (whole c.args.s.now) at found.2 in
    let same_text = c.text.ensures.0 in
    let answer = rw (whole c.args.s.now) at c.equal.ensures in
    let low = none_before _ l.i _ l.invariant.1 none in
    (found.1, low, λ h. compared _ _ _ _ _ _ same_text answer c.if-equal.true)

pub loop-i-preserved : goal.loop-i-preserved
loop-i-preserved c =
    let l = c.loop-i in
    let found = c.next_like-j.ensures in
    let none = rw (whole c.args.s.now) at found.2 in
    let same_text = c.text.ensures.0 in
    let answer = rw (whole c.args.s.now) at c.equal.ensures in
    let low = none_before _ l.i _ l.invariant.1 none in
    let not-here = compared _ _ _ _ _ _ same_text answer c.if-equal.false in
    (omega (arith, c.if-n-j.false), λ j h. none_more _ 0 _ (λ i a b. low i b) not-here j (omega arith) h)

pub returns : goal.returns
returns c =
    let l = c.loop-i in
    (omega arith, λ j h. l.invariant.1 j (omega (arith, h, c.loop-i-test.false)), λ h. absurd (omega (arith, h)))
