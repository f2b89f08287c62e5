-- Texts of equal bytes.
use Rattle.std.proofs.Common.{◌≡◌, ◌<◌, ℕ, Bool, true, false, ◌==◌, List, [], ◌∷◌, zero, suc, IsTrue, length, slice_index, replicate, Some, None, if◌then◌else◌, arith, refl, eq-eqb, inl, inr}
use Rattle.std.specs.List.{list_all}
use Rattle.std.proofs.lemmas.Bool.{eqb-true}
use Rattle.std.proofs.lemmas.Bool.Decides.{eqb_tells}
use Rattle.std.proofs.lemmas.Grind.{common_steps}
use Rattle.std.proofs.lemmas.List.{length-replicate}
use Rattle.std.proofs.lemmas.List.Elements.{All-replicate}
use Rattle.std.proofs.lemmas.List.Sums.{AllPass-from_list_all, list_all-from_AllPass}
use Rattle.justfile_vocabulary.specs.declared.indentation.Indentation.{Indentation}
use Rattle.justfile_vocabulary.specs.Indentation.{IsIndentation, indentation_refusal, indentation_text, is_space_or_tab}

pub replicate_all : (x : ℕ) (xs : List ℕ) → list_all (λ b. b == x) xs ≡ true → replicate (length xs) x ≡ xs
replicate_all x [] h = refl
replicate_all x (y ∷ ys) h = grind (arith, common_steps, replicate_all x ys)

pub all_equal : (text : List ℕ) → IsIndentation text → list_all (λ b. b == slice_index text 0) text ≡ true
all_equal text is = list_all-from_AllPass _ text (λ k d h. eq-eqb _ _ (is.equal k d h))

-- if there is no refusal, each test passes
no_refusal : (a b c : List ℕ) (empty blank equal : Bool)
    → (if empty then Some a else if blank then (if equal then None else Some b) else Some c) ≡ None
    → (empty ≡ false) × (blank ≡ true) × (equal ≡ true)
no_refusal a b c true blank equal e = absurd (cc)
no_refusal a b c false false equal e = absurd (cc)
no_refusal a b c false true false e = absurd (cc)
no_refusal a b c false true true e = (refl, refl, refl)

positive : (n : ℕ) → (n == 0) ≡ false → 0 < n
positive n e = elim (eqb_tells n 0) [ inl p ↦ absurd (cc) | inr q ↦ omega arith ]

positive_test : (n : ℕ) → 0 < n → (n == 0) ≡ false
positive_test n h = elim (eqb_tells n 0) [ inl p ↦ absurd (omega arith) | inr q ↦ q.0 ]

pub indentation_read : (text : List ℕ) → indentation_refusal text ≡ None → IsIndentation text
indentation_read text e =
    let p = no_refusal _ _ _ (length text == 0) (is_space_or_tab (slice_index text 0)) (list_all (λ b. b == slice_index text 0) text) e in
    record {
      nonempty = positive (length text) p.0;
      equal = λ k d h. eqb-true _ _ (AllPass-from_list_all _ text p.2 k d h);
      blank = p.1;
    }

pub indentation_taken : (text : List ℕ) → IsIndentation text → indentation_refusal text ≡ None
indentation_taken text is = rw (positive_test (length text) is.nonempty, is.blank, all_equal text is) refl

replicate_is : (n c : ℕ) → 0 < n → IsTrue (is_space_or_tab c) → IsIndentation (replicate n c)
replicate_is zero c h b = absurd (omega arith)
replicate_is (suc n) c h b = record {
  nonempty = simp length-replicate (omega arith);
  equal = All-replicate (λ x. x ≡ c) (suc n) c refl;
  blank = b;
}

-- the text of an `Indentation` satisfies `IsIndentation`
pub indentation_text_is : (i : Indentation) → IsIndentation (indentation_text i)
indentation_text_is i = replicate_is i.count i.character i.is_positive i.is_blank
