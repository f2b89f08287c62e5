-- What the earlier tokens open and don't close is what the mode has.
use Rattle.std.proofs.Common.{◌≡◌, ◌≢◌, List, [], ◌∷◌, ◌++◌, Option, Some, None, refl, sym, ap, subst, ◌∙◌}
use Rattle.std.specs.Prelude.{◌↔◌, reverse}
use Rattle.std.proofs.lemmas.List.{append_assoc, append-nil, reverse-append, reverse-reverse}
use Rattle.justfile_vocabulary.specs.declared.token_kind.TokenKind.{TokenKind}
use Rattle.justfile_model.specs.Lexing.Tok.{Tok}
use Rattle.justfile_model.specs.Lexing.Unclosed.{Balanced, NoTokens, Another, Pair, Unclosed, Nothing, OneMore}

-- in the reversed list, what came before a token comes after it
pub reverse_at : {A : Type 0} (before : List A) (x : A) (after : List A) → reverse (before ++ (x ∷ after)) ≡ reverse after ++ (x ∷ reverse before)
reverse_at before x after = reverse-append before (x ∷ after) ∙ ap (λ back. back ++ reverse before) (reverse-append (x ∷ []) after) ∙ append_assoc (reverse after) (x ∷ []) (reverse before)

pub reverse_more : {A : Type 0} (x : A) (xs e : List A) → reverse (x ∷ xs) ++ e ≡ reverse xs ++ (x ∷ e)
reverse_more x xs e = ap (λ front. front ++ e) (reverse-append (x ∷ []) xs) ∙ append_assoc (reverse xs) (x ∷ []) e

reverse_pair : {A : Type 0} (x : A) (inside : List A) (y : A) (xs e : List A) → reverse (x ∷ (inside ++ (y ∷ xs))) ++ e ≡ reverse xs ++ (y ∷ (reverse inside ++ (x ∷ e)))
reverse_pair x inside y xs e = reverse_more x (inside ++ (y ∷ xs)) e ∙ ap (λ front. front ++ (x ∷ e)) (reverse_at inside y xs) ∙ append_assoc (reverse xs) (y ∷ reverse inside) (x ∷ e)

-- A stack of open delimiters or levels. Each token opens one, closes the last one, or does neither.
module _ {X : Type 0} (closer : X → TokenKind) where
  pub data Step (o : Option X) (k : TokenKind) (old new : List X) : Type 0 where
    Opens : (x : X) → o ≡ Some x → new ≡ x ∷ old → Step o k old new
    Closes : (x : X) → closer x ≡ k → old ≡ x ∷ new → Step o k old new
    Stays : o ≡ None → ((x : X) → closer x ≢ k) → new ≡ old → Step o k old new

module _ {X : Type 0} (opened : Tok → Option X) (closer : X → TokenKind) (apart : (t : Tok) (x y : X) → opened t ≡ Some x → closer y ≡ t.kind → ⊥) where
  module _ (stack : List Tok → List X) where
    -- each token does so
    abbrev pub Steps : List Tok → Type 0
    Steps [] = Unit {0}
    Steps (t ∷ e) = Step closer (opened t) t.kind (stack e) (stack (t ∷ e)) × Steps e

    steps_before : (ts e : List Tok) → Steps (ts ++ e) → Steps e
    steps_before [] e steps = steps
    steps_before (t ∷ ts) e steps = steps_before ts e steps.1

    pushed : (t : Tok) (x : X) (old new : List X) → opened t ≡ Some x → Step closer (opened t) t.kind old new → new ≡ x ∷ old
    pushed t x old new o (Opens y p e) = cc
    pushed t x old new o (Closes y p e) = absurd (apart t x y o p)
    pushed t x old new o (Stays p q e) = cc

    kept : (t : Tok) (old new : List X) → opened t ≡ None → ((x : X) → closer x ≢ t.kind) → Step closer (opened t) t.kind old new → new ≡ old
    kept t old new o c (Opens y p e) = cc
    kept t old new o c (Closes y p e) = absurd (c y p)
    kept t old new o c (Stays p q e) = e

    popped : (t : Tok) (x : X) (rest old new : List X) → closer x ≡ t.kind → old ≡ x ∷ rest → Step closer (opened t) t.kind old new → new ≡ rest
    popped t x rest old new c was (Opens y p e) = absurd (apart t y x p c)
    popped t x rest old new c was (Closes y p e) = cc
    popped t x rest old new c was (Stays p q e) = absurd (q x c)

    -- balanced tokens leave the stack as it was
    balanced : (ts : List Tok) → Balanced opened closer ts → (e : List Tok) → Steps (reverse ts ++ e) → stack (reverse ts ++ e) ≡ stack e
    balanced ts NoTokens e steps = refl
    balanced ts (Another t us o c b) e steps =
        let same = reverse_more t us e in
        let steps' : Steps (reverse us ++ (t ∷ e)) = subst Steps same steps in
        ap stack same ∙ balanced us b (t ∷ e) steps' ∙ kept t (stack e) (stack (t ∷ e)) o c (steps_before (reverse us) (t ∷ e) steps').0
    balanced ts (Pair x start inside end us o b c d) e steps =
        let same = reverse_pair start inside end us e in
        let opening : List Tok = start ∷ e in
        let closing : List Tok = reverse inside ++ opening in
        let steps' : Steps (reverse us ++ (end ∷ closing)) = subst Steps same steps in
        let at_end : Steps (end ∷ closing) = steps_before (reverse us) (end ∷ closing) steps' in
        let at_start : Steps opening = steps_before (reverse inside) opening at_end.1 in
        let held : stack closing ≡ x ∷ stack e = balanced inside b opening at_end.1 ∙ pushed start x (stack e) (stack opening) o at_start.0 in
        ap stack same ∙ balanced us d (end ∷ closing) steps' ∙ popped end x (stack e) (stack closing) (stack (end ∷ closing)) c held at_end.0

    -- the unclosed elements are on the stack
    pub unclosed_is : stack [] ≡ [] → (ts : List Tok) (xs : List X) → Unclosed opened closer ts xs → Steps (reverse ts) → stack (reverse ts) ≡ xs
    unclosed_is none ts xs (Nothing us b) steps =
        let same = append-nil (reverse ts) in
        sym (ap stack same) ∙ balanced ts b [] (subst Steps (sym same) steps) ∙ none
    unclosed_is none ts xs (OneMore us ys x start after u o b) steps =
        let same = reverse_at us start after in
        let opening : List Tok = start ∷ reverse us in
        let steps' : Steps (reverse after ++ opening) = subst Steps same steps in
        let at_start : Steps opening = steps_before (reverse after) opening steps' in
        ap stack same ∙ balanced after b opening steps' ∙ pushed start x (stack (reverse us)) (stack opening) o at_start.0 ∙ ap (λ xs. x ∷ xs) (unclosed_is none us ys u at_start.1)

  -- balanced tokens, and then others
  balanced_more : (ts us : List Tok) → Balanced opened closer ts → Balanced opened closer us → Balanced opened closer (ts ++ us)
  balanced_more ts us NoTokens d = d
  balanced_more ts us (Another t vs o c b) d = Another t (vs ++ us) o c (balanced_more vs us b d)
  balanced_more ts us (Pair x start inside end vs o b c f) d = subst (λ back. Balanced opened closer (start ∷ back)) (sym (append_assoc inside (end ∷ vs) us)) (Pair x start inside end (vs ++ us) o b c (balanced_more vs us f d))

  unclosed_more : (ts us : List Tok) (xs : List X) → Unclosed opened closer ts xs → Balanced opened closer us → Unclosed opened closer (ts ++ us) xs
  unclosed_more ts us xs (Nothing vs b) d = Nothing (ts ++ us) (balanced_more ts us b d)
  unclosed_more ts us xs (OneMore vs ys x start after u o b) d = subst (λ ts. Unclosed opened closer ts (x ∷ ys)) (sym (append_assoc vs (start ∷ after) us)) (OneMore vs ys x start (after ++ us) u o (balanced_more after us b d))

  closed : (t : Tok) (ts : List Tok) (x : X) (xs ys : List X) → Unclosed opened closer ts ys → ys ≡ x ∷ xs → closer x ≡ t.kind → Unclosed opened closer (ts ++ (t ∷ [])) xs
  closed t ts x xs ys (Nothing us b) e c = cc
  closed t ts x xs ys (OneMore us zs z start after u o b) e c =
      let same : zs ≡ xs = cc in
      let ends : closer z ≡ t.kind = cc in
      let more : Unclosed opened closer (us ++ (start ∷ (after ++ (t ∷ [])))) zs = unclosed_more us (start ∷ (after ++ (t ∷ []))) zs u (Pair z start after t [] o b ends NoTokens) in
      subst (Unclosed opened closer ((us ++ (start ∷ after)) ++ (t ∷ []))) same (subst (λ ts. Unclosed opened closer ts zs) (sym (append_assoc us (start ∷ after) (t ∷ []))) more)

  module _ (stack : List Tok → List X) where
    -- the elements on the stack are unclosed
    pub unclosed_from : stack [] ≡ [] → (e : List Tok) → Steps stack e → Unclosed opened closer (reverse e) (stack e)
    unclosed_from none [] steps = subst (Unclosed opened closer []) (sym none) (Nothing [] NoTokens)
    unclosed_from none (t ∷ e) steps = subst (λ ts. Unclosed opened closer ts (stack (t ∷ e))) (sym (reverse-append (t ∷ []) e)) (by (stack e) (stack (t ∷ e)) steps.0 (unclosed_from none e steps.1))
      where
        by : (old new : List X) → Step closer (opened t) t.kind old new → Unclosed opened closer (reverse e) old → Unclosed opened closer (reverse e ++ (t ∷ [])) new
        by old new (Opens x o h) u = subst (Unclosed opened closer (reverse e ++ (t ∷ []))) (sym h) (OneMore (reverse e) old x t [] u o NoTokens)
        by old new (Closes x c h) u = closed t (reverse e) x new old u h c
        by old new (Stays o c h) u = subst (Unclosed opened closer (reverse e ++ (t ∷ []))) (sym h) (unclosed_more (reverse e) (t ∷ []) old u (Another t [] o c NoTokens))

    -- both ways
    pub unclosed_law : stack [] ≡ [] → (e : List Tok) → Steps stack e → (xs : List X) → (stack e ≡ xs) ↔ Unclosed opened closer (reverse e) xs
    unclosed_law none e steps xs = (forth, back)
      where
        same : reverse (reverse e) ≡ e
        same = reverse-reverse e

        forth : stack e ≡ xs → Unclosed opened closer (reverse e) xs
        forth h = subst (Unclosed opened closer (reverse e)) h (unclosed_from none e steps)

        back : Unclosed opened closer (reverse e) xs → stack e ≡ xs
        back u = sym (ap stack same) ∙ unclosed_is stack none (reverse e) xs u (subst (Steps stack) (sym same) steps)
