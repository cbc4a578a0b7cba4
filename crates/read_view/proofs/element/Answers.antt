-- An answer that is Done is for an element that the view shows, any other is the refusal (Answers: within, found_number, found-refusal).
use Rattle.std.proofs.Common.{ℕ, ap, ◌∙◌, arith}
use Rattle.number.specs.Kind.{kind}
use Rattle.read_view.specs.Read.{found_element, refused_read, read_answer}
use Rattle.read_view.proofs.Answers.{within, found_number, found-refusal}
use Rattle.read_view.proofs.element.Goals as goal

pub elem-requires : goal.elem-requires
elem-requires g c =
    let answered = c.answer-a.ensures ∙ ap (λ (n : ℕ). read_answer c.args.v n c.args.r c.args.c) (omega (arith, c.count.ensures.counted)) in
    within _ _ _ _ _ _ answered c.passed.ensures c.if-passed.true

pub returns-then-passed : goal.returns-then-passed
returns-then-passed g c =
    let K = kind g.N.Number.numbers in
    let answered = c.answer-a.ensures ∙ ap (λ (n : ℕ). read_answer c.args.v n c.args.r c.args.c) (omega (arith, c.count.ensures.counted)) in
    found_number K (found_element K) (refused_read K) c.args.slab.now c.args.v c.args.r c.args.c _ _ answered c.passed.ensures c.if-passed.true _ c.elem.ensures

pub returns-else-passed : goal.returns-else-passed
returns-else-passed g c =
    let K = kind g.N.Number.numbers in
    let answered = c.answer-a.ensures ∙ ap (λ (n : ℕ). read_answer c.args.v n c.args.r c.args.c) (omega (arith, c.count.ensures.counted)) in
    found-refusal K (found_element K) (refused_read K) c.args.slab.now c.args.v c.args.r c.args.c _ _ answered c.passed.ensures c.if-passed.false
