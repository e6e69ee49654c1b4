-- Small facts about lists and tests.
use Rattle.std.proofs.Common.{◌≡◌, ℕ, ◌+◌, ◌<◌, Bool, true, false, cond, eqb, List, [], ◌∷◌, ◌++◌, length, get_or, set, sym, refl, ap, ◌∙◌, subst, ap₂, inl, inr, length-append, get_or-set_other, get_or-set_same}
use Rattle.std.proofs.lemmas.Bool.{eqb-true, eqb-false, false≢true}
use Rattle.audit.specs.Law.{SomeOf, EachOf}

pub no : {A : Type 0} → false ≡ true → A
no e = absurd (false≢true e)

module _ {A : Type 0} where
  pub some_left : (P : A → Type 0) (xs ys : List A) → SomeOf P xs → SomeOf P (xs ++ ys)
  some_left P [] ys h = absurd h
  some_left P (x ∷ xs) ys (inl h) = inl h
  some_left P (x ∷ xs) ys (inr h) = inr (some_left P xs ys h)

  pub some_right : (P : A → Type 0) (xs ys : List A) → SomeOf P ys → SomeOf P (xs ++ ys)
  some_right P [] ys h = h
  some_right P (x ∷ xs) ys h = inr (some_right P xs ys h)

  pub each_more : (P : A → Type 0) (xs : List A) (y : A) → EachOf P xs → P y → EachOf P (xs ++ y ∷ [])
  each_more P [] y h p = (p, tt)
  each_more P (x ∷ xs) y h p = (h.0, each_more P xs y h.1 p)

  -- A fact about the element at place d of a list that was changed at place n, with the test whether d is n.
  pub at_set : {B : Type 0} (P : A → B → Type 0) (l : List A) (n d : ℕ) (x z : A) (u v : B) → d < length l
      → (n ≡ d → P x u) → P (get_or l d z) v → P (get_or (set l n x) d z) (cond (eqb n d) u v)
  at_set P l n d x z u v h k other = go (eqb n d) refl
    where
      go : (t : Bool) → eqb n d ≡ t → P (get_or (set l n x) d z) (cond t u v)
      go true e =
          let s : n ≡ d = eqb-true n d e in
          let i : n < length l = subst (λ (j : ℕ). j < length l) (sym s) h in
          subst (λ (y : A). P y u) (sym (ap (λ (j : ℕ). get_or (set l n x) j z) (sym s) ∙ get_or-set_same l n x z i)) (k s)
      go false e = subst (λ (y : A). P y v) (sym (get_or-set_other l n d x z (λ s. eqb-false n d e (sym s)))) other

-- The same without the test.
pub at_set_alone : {A : Type 0} (P : A → Type 0) (l : List A) (n d : ℕ) (x z : A) → d < length l
    → (n ≡ d → P x) → P (get_or l d z) → P (get_or (set l n x) d z)
at_set_alone {A} P l n d x z h k other = at_set (λ (y : A) (b : Bool). P y) l n d x z true true h k other

pub length_join : {A B : Type 0} (s t : List A) (u v : List B) → length s ≡ length u → length t ≡ length v → length (s ++ t) ≡ length (u ++ v)
length_join s t u v p q = length-append s t ∙ ap₂ (λ (a b : ℕ). a + b) p q ∙ sym (length-append u v)
