-- What a C call hands back, by what the call returns.
use Rattle.std.proofs.Common.{◌≡◌, ℕ, ◌*◌, List, length, refl, sym, ap, ◌∙◌}
use Rattle.std.specs.Prelude.{Float, Ok, Err}
use Rattle.view.specs.Refusals.{limit}
use Rattle.card.specs.declared.Header.{Header}
use Rattle.card.specs.declared.Refusal.{Refusal}
use Rattle.card.specs.declared.Refusal.TheVariants as refusal
use Rattle.card.specs.Answers.{CardAnswer, Done, TooLarge, TooShort, Torn, Wrong, card_number, refusal_number, refused}
use Rattle.card.specs.Layout.{blocks}
use Rattle.card.specs.Reading.{Reading, changed, handed, header, reading, reading_of, slab_after}
use Rattle.card.specs.Writing.{Writing, buffer_after, handed_length, write_answer, writing}
use Rattle.capi_card.specs.Interface.{Reads, Writes, answer_of}

-- a refusal leaves a word as it was
kept : (e : Refusal) (old new : ℕ) → old ≡ changed (refused e) old new
kept refusal.TooLarge old new = refl
kept refusal.TooShort old new = refl
kept refusal.Torn old new = refl
kept refusal.Wrong old new = refl

module _ (file : List ℕ) (slab slab' : List Float) (k m n : ℕ) where
  pub reads_done : (h : Header) → reading_of (Ok h) ≡ reading limit file (length slab) → slab' ≡ slab_after limit file slab → Reads file slab k m n 0 slab' h.kind h.rows h.cols
  unfolding reading
  reads_done h e l =
      let a : Done ≡ answer_of file slab = ap (λ (y : Reading). y.answer) e in
      let f : h ≡ header file = ap (λ (y : Reading). y.header) e ∙ (λ i. handed (sym a i) (header file)) in
      record {
        result = ap card_number a;
        leaves = l;
        kind = (λ i. (f i).kind) ∙ (λ i. changed (a i) k (header file).kind);
        rows = (λ i. (f i).rows) ∙ (λ i. changed (a i) m (header file).rows);
        cols = (λ i. (f i).cols) ∙ (λ i. changed (a i) n (header file).cols);
      }

  pub reads_refused : (e : Refusal) → reading_of (Err e) ≡ reading limit file (length slab) → slab' ≡ slab_after limit file slab → Reads file slab k m n (refusal_number e) slab' k m n
  unfolding reading
  reads_refused e w l =
      let a : refused e ≡ answer_of file slab = ap (λ (y : Reading). y.answer) w in
      record {
        result = ap card_number a;
        leaves = l;
        kind = kept e k (header file).kind ∙ (λ i. changed (a i) k (header file).kind);
        rows = kept e m (header file).rows ∙ (λ i. changed (a i) m (header file).rows);
        cols = kept e n (header file).cols ∙ (λ i. changed (a i) n (header file).cols);
      }

-- the length that a writing call hands back is the card's
length-handed : (a : CardAnswer) (old n : ℕ) → changed a old (handed_length a n) ≡ changed a old n
length-handed Done old n = refl
length-handed TooLarge old n = refl
length-handed TooShort old n = refl
length-handed Torn old n = refl
length-handed Wrong old n = refl

pub writes_is : (g : Header) (slab : List Float) (buffer buffer' : List ℕ) (n n' r : ℕ) (x : Writing) → x ≡ writing limit g (length slab) (length buffer) → buffer' ≡ buffer_after limit g slab buffer
    → r ≡ card_number x.answer → n' ≡ changed x.answer n x.length → Writes g slab buffer n r buffer' n'
unfolding writing
writes_is g slab buffer buffer' n n' r x e l u h =
    record {
      result = u ∙ ap (λ (y : Writing). card_number y.answer) e;
      leaves = l;
      handed = h ∙ ap (λ (y : Writing). changed y.answer n y.length) e ∙ length-handed (write_answer limit g (length slab) (length buffer)) n (512 * blocks g);
    }
