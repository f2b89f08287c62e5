-- What a buffer's writer has.
use Rattle.std.proofs.Common.{◌≡◌, ◌≤◌, ℕ, ◌+◌, ◌-◌, List, [], ◌∷◌, ◌++◌, Option, None, Some, Result, Ok, Err, length, take, drop, refl, sym, ap, subst, ◌∙◌, arith, append_assoc, append-nil, take-append-drop}
use Rattle.std.proofs.Math.Seq.{take-append-add, take-append_seam, take-length}
use Rattle.std.specs.Prelude.{IfSome, OnErr, OnOk}
use Rattle.system_run.specs.Beginning.{AppendsBeginning}
use Rattle.justfile_ast.specs.Written.{AppendsPart}
use Rattle.std.proofs.lemmas.List.{drop-take, drop_all, length-append, length-drop, length-take-le}
use Rattle.std.proofs.lemmas.List.Edits.{take-paste}
use lib.Seq.{paste}
use Rattle.std.specs.Option.{option_map}
use Rattle.std.specs.Io.KnownBytes.{Appends, Keeps}
use Rattle.std.proofs.KnownBytes.{Appends-kept, Appends-nil}
use Rattle.justfile_format.specs.Buffered.{PassesOn, buffered, held}
use Rattle.justfile_format.specs.declared.buffer.Buffer.{Buffer}

-- ---- by the parts of a buffer

abbrev pub joined : (name passed : ℕ) (held : List ℕ) → Option (List ℕ) → Option (List ℕ)
joined name passed held known = option_map (λ bytes. name ∷ (length bytes - passed) ∷ (bytes ++ held)) known

-- two numbers before a list
before : (m n i j : ℕ) (xs ys : List ℕ) → m ≡ n → i ≡ j → xs ≡ ys → m ∷ i ∷ xs ≡ n ∷ j ∷ ys
before m n i j xs ys p q r = λ k. p k ∷ q k ∷ r k

left_alike : (x y got : List ℕ) (p q : ℕ) → y ≡ x ++ got → q ≡ p + length got → length y - q ≡ length x - p
left_alike x y got p q e counted =
    let long : length y ≡ length x + length got = ap length e ∙ length-append x got in
    omega arith

moved : (a b : Option (List ℕ)) (m n p q : ℕ) (held rest got : List ℕ) → n ≡ m → q ≡ p + length got → held ≡ got ++ rest → Appends a b got
    → Keeps (joined m p held a) (joined n q rest b)
moved None b m n p q held rest got same counted is h = tt
moved (Some x) None m n p q held rest got same counted is h = absurd h
moved (Some x) (Some y) m n p q held rest got same counted is h =
    before n m (length y - q) (length x - p) (y ++ rest) (x ++ held) same (left_alike x y got p q h counted)
    (ap (λ l. l ++ rest) h ∙ append_assoc x got rest ∙ ap (λ l. x ++ l) (sym is))

kept_behind : (a b c : Option (List ℕ)) (m n p q : ℕ) (held rest : List ℕ) → Keeps (joined m p held a) (joined n q rest b) → Keeps b c
    → Keeps (joined m p held a) (joined n q rest c)
kept_behind None b c m n p q held rest h k = tt
kept_behind (Some x) None c m n p q held rest h k = absurd h
kept_behind (Some x) (Some y) None m n p q held rest h k = absurd k
kept_behind (Some x) (Some y) (Some z) m n p q held rest h k = ap (λ l. n ∷ (length l - q) ∷ (l ++ rest)) k ∙ h

more_held : (a b : Option (List ℕ)) (m n p q : ℕ) (held mid new more : List ℕ) → Keeps (joined m p held a) (joined n q mid b) → new ≡ mid ++ more
    → Appends (joined m p held a) (joined n q new b) more
more_held None b m n p q held mid new more h is = tt
more_held (Some x) None m n p q held mid new more h is = absurd h
more_held (Some x) (Some y) m n p q held mid new more h is =
    ap (λ l. n ∷ (length y - q) ∷ (y ++ l)) is ∙ ap (λ l. n ∷ (length y - q) ∷ l) (sym (append_assoc y mid more)) ∙ ap (λ l. l ++ more) h

-- what is left moves to the front of the room
shifted : (room : List ℕ) (end count : ℕ) → count ≤ end → end ≤ length room → take (end - count) (paste room 0 (drop count room) (end - count)) ≡ drop count (take end room)
shifted room end count most fits =
    let left = end - count in
    let same : left ≡ 0 + left = omega arith in
    let whole : count + left ≡ end = omega arith in
    let rest = length-drop count room in
    ap (λ k. take k (paste room 0 (drop count room) left)) same ∙ take-paste room 0 (drop count room) left (omega arith) (omega arith)
    ∙ sym (drop-take count left room) ∙ ap (λ k. drop count (take k room)) whole

-- ---- buffers

module _ {W : Type 0} (contents : W → Option (List ℕ)) where
  pub none_passed : (b : Buffer W) → PassesOn contents b b
  none_passed b = record { same_reference = refl; got = []; counted = omega arith; is = refl; appended = Appends-nil (contents b.writer.now) }

  pub some_passed : (old new : Buffer W) (count : ℕ) → new.writer.ghost_name ≡ old.writer.ghost_name → new.passed ≡ old.passed + count
      → count ≤ length (held old) → (held new) ≡ drop count (held old)
      → Appends (contents old.writer.now) (contents new.writer.now) (take count (held old)) → PassesOn contents old new
  some_passed old new count same counted most left appended = record {
    same_reference = same;
    got = take count (held old);
    counted = counted ∙ ap (λ n. old.passed + n) (sym (length-take-le count (held old) most));
    is = sym (take-append-drop count (held old)) ∙ ap (λ l. take count (held old) ++ l) (sym left);
    appended = appended;
  }

  pub part_passed : (old new : Buffer W) (count : ℕ) → new.writer.ghost_name ≡ old.writer.ghost_name → new.passed ≡ old.passed + count → count ≤ old.end
      → old.end ≤ length old.room.now → new.end ≡ old.end - count → new.room.now ≡ paste old.room.now 0 (drop count old.room.now) (old.end - count)
      → Appends (contents old.writer.now) (contents new.writer.now) (take count (take old.end old.room.now)) → PassesOn contents old new
  part_passed old new count same counted most fits end shift appended =
      some_passed old new count same counted (let e = length-take-le old.end old.room.now fits in omega arith)
      (ap (λ k. take k new.room.now) end ∙ ap (λ l. take (old.end - count) l) shift ∙ shifted old.room.now old.end count most fits) appended

  pub all_passed : (old new : Buffer W) (count : ℕ) → new.writer.ghost_name ≡ old.writer.ghost_name → new.passed ≡ old.passed + count → count ≤ old.end
      → old.end ≤ count → old.end ≤ length old.room.now → new.end ≡ 0
      → Appends (contents old.writer.now) (contents new.writer.now) (take count (take old.end old.room.now)) → PassesOn contents old new
  all_passed old new count same counted most all fits end appended =
      let e = length-take-le old.end old.room.now fits in
      some_passed old new count same counted (omega arith)
      (ap (λ k. take k new.room.now) end ∙ sym (drop_all count (held old) (omega arith))) appended

  -- passing on changes nothing of what was written
  pub kept : (old new : Buffer W) → PassesOn contents old new → Keeps (buffered contents old) (buffered contents new)
  kept old new p =
      moved (contents old.writer.now) (contents new.writer.now) old.writer.ghost_name new.writer.ghost_name old.passed new.passed (held old) (held new) p.got
      p.same_reference p.counted p.is p.appended

  -- nor does a flush of the writer
  pub flushed : (old mid new : Buffer W) → PassesOn contents old mid → new.writer.ghost_name ≡ mid.writer.ghost_name → new.passed ≡ mid.passed
      → (held new) ≡ (held mid) → Keeps (contents mid.writer.now) (contents new.writer.now) → Keeps (buffered contents old) (buffered contents new)
  flushed old mid new p same counted is_held k =
      subst (λ n. Keeps (buffered contents old) (joined n new.passed (held new) (contents new.writer.now))) (sym same)
      (subst (λ n. Keeps (buffered contents old) (joined mid.writer.ghost_name n (held new) (contents new.writer.now))) (sym counted)
      (subst (λ l. Keeps (buffered contents old) (joined mid.writer.ghost_name mid.passed l (contents new.writer.now))) (sym is_held)
      (kept_behind (contents old.writer.now) (contents mid.writer.now) (contents new.writer.now) old.writer.ghost_name mid.writer.ghost_name old.passed mid.passed
      (held old) (held mid) (kept old mid p) k)))

  -- bytes that are held after that are written
  pub held_more : (old mid new : Buffer W) (more : List ℕ) → PassesOn contents old mid → new.writer ≡ mid.writer → new.passed ≡ mid.passed
      → (held new) ≡ (held mid) ++ more → Appends (buffered contents old) (buffered contents new) more
  held_more old mid new more p same counted is_held =
      subst (λ w. Appends (buffered contents old) (joined w.ghost_name new.passed (held new) (contents w.now)) more) (sym same)
      (subst (λ n. Appends (buffered contents old) (joined mid.writer.ghost_name n (held new) (contents mid.writer.now)) more) (sym counted)
      (more_held (contents old.writer.now) (contents mid.writer.now) old.writer.ghost_name mid.writer.ghost_name old.passed mid.passed (held old) (held mid)
      (held new) more (kept old mid p) is_held))

  -- no bytes more are held
  pub none_held : (old new : Buffer W) (bytes : List ℕ) → PassesOn contents old new → Appends (buffered contents old) (buffered contents new) (take 0 bytes)
  none_held old new bytes p = Appends-kept _ _ _ [] (Appends-nil (buffered contents old)) (kept old new p)

  -- all of the bytes are held
  pub held_all : (old new : Buffer W) (bytes : List ℕ) → new.writer ≡ old.writer → new.passed ≡ old.passed → (held new) ≡ (held old) ++ bytes
      → Appends (buffered contents old) (buffered contents new) (take (length bytes) bytes)
  held_all old new bytes same counted is_held =
      subst (Appends (buffered contents old) (buffered contents new)) (sym (take-length bytes)) (held_more old old new bytes (none_passed old) same counted is_held)

-- ---- what the writer has, where no more is known than what was written

head_of : List ℕ → ℕ
head_of [] = 0
head_of (x ∷ xs) = x

tail_of : List ℕ → List ℕ
tail_of [] = []
tail_of (x ∷ xs) = xs

-- what a call that wrote a text leaves
record Left (x y : List ℕ) (m n p : ℕ) (held text : List ℕ) : Type 0 where
  same_reference : n ≡ m
  counted : length y - p ≡ length x
  is : y ++ held ≡ x ++ text

left : (x y : List ℕ) (m n q p : ℕ) (none held text : List ℕ) → none ≡ [] → q ≡ 0
    → n ∷ (length y - p) ∷ (y ++ held) ≡ (m ∷ (length x - q) ∷ (x ++ none)) ++ text → Left x y m n p held text
unfolding head_of tail_of
left x y m n q p none held text empty zero h = record {
  same_reference = ap head_of h;
  counted = let e : length y - p ≡ length x - q = ap (λ l. head_of (tail_of l)) h in omega arith;
  is = ap (λ l. tail_of (tail_of l)) h ∙ ap (λ l. (x ++ l) ++ text) empty ∙ ap (λ l. l ++ text) (append-nil x);
}

-- the writer's bytes only grew
longer : (x y : List ℕ) (m n p : ℕ) (held text : List ℕ) → Left x y m n p held text → length x ≤ length y
longer x y m n p held text h = let e = h.counted in omega arith

-- a beginning of the text
began : (x y : List ℕ) (m n p : ℕ) (held text : List ℕ) → Left x y m n p held text → y ≡ x ++ take (length y - length x) text
began x y m n p held text h =
    let more = length y - length x in
    let e : length y ≡ length x + more = let l = longer x y m n p held text h in omega arith in
    sym (take-append_seam y held) ∙ ap (take (length y)) h.is ∙ ap (λ k. take k (x ++ text)) e ∙ take-append-add x text more

module _ (m n q p : ℕ) (none held : List ℕ) (empty : none ≡ []) (zero : q ≡ 0) where
  same_by : (a b : Option (List ℕ)) (text : List ℕ) → Appends (joined m q none a) (joined n p held b) text → IfSome a (λ x. n ≡ m)
  same_by None b text h = tt
  same_by (Some x) None text h = absurd h
  same_by (Some x) (Some y) text h = (left x y m n q p none held text empty zero h).same_reference

  whole_by : (a b : Option (List ℕ)) (text : List ℕ) → held ≡ [] → Appends (joined m q none a) (joined n p held b) text → Appends a b text
  whole_by None b text done h = tt
  whole_by (Some x) None text done h = absurd h
  whole_by (Some x) (Some y) text done h = sym (append-nil y) ∙ ap (λ l. y ++ l) (sym done) ∙ (left x y m n q p none held text empty zero h).is

  begun_by : (a b : Option (List ℕ)) (text : List ℕ) → Appends (joined m q none a) (joined n p held b) text → AppendsBeginning a b text
  begun_by None b text h = record { written = text; rest = []; is = sym (append-nil text); appended = tt }
  begun_by (Some x) None text h = absurd h
  begun_by (Some x) (Some y) text h =
      let k = length y - length x in
      record {
        written = take k text;
        rest = drop k text;
        is = sym (take-append-drop k text);
        appended = began x y m n p held text (left x y m n q p none held text empty zero h);
      }

-- a beginning of a beginning
shorter : (a b : Option (List ℕ)) (front rest text : List ℕ) → text ≡ front ++ rest → AppendsBeginning a b front → AppendsBeginning a b text
shorter a b front rest text e h = record {
  written = h.written;
  rest = h.rest ++ rest;
  is = e ∙ ap (λ l. l ++ rest) h.is ∙ append_assoc h.written h.rest rest;
  appended = h.appended;
}

-- What the writer has in the end: it is what the reference leaves that the buffer was made with, if the buffer still has that one.
module _ {W : Type 0} (contents : W → Option (List ℕ)) (last given : W) where
  whole_given : (a : Option (List ℕ)) (Same : Type 0) (text : List ℕ) → IfSome a (λ x. Same) → Appends a (contents last) text → (Same → given ≡ last)
      → Appends a (contents given) text
  whole_given None Same text s h settle = tt
  whole_given (Some x) Same text s h settle = subst (λ w. Appends (Some x) (contents w) text) (sym (settle s)) h

  begun_given : (a : Option (List ℕ)) (Same : Type 0) (text : List ℕ) → IfSome a (λ x. Same) → AppendsBeginning a (contents last) text → (Same → given ≡ last)
      → AppendsBeginning a (contents given) text
  begun_given None Same text s h settle = record { written = text; rest = []; is = sym (append-nil text); appended = tt }
  begun_given (Some x) Same text s h settle = subst (λ w. AppendsBeginning (Some x) (contents w) text) (sym (settle s)) h

module _ {W : Type 0} (contents : W → Option (List ℕ)) (start last : W) (m n p : ℕ) (none held text : List ℕ) (empty : none ≡ []) (given : W)
    (settle : n ≡ m → given ≡ last) where
  ends_whole : held ≡ [] → Appends (joined m 0 none (contents start)) (joined n p held (contents last)) text → Appends (contents start) (contents given) text
  ends_whole done h =
      whole_given contents last given (contents start) (n ≡ m) text (same_by m n 0 p none held empty refl (contents start) (contents last) text h)
      (whole_by m n 0 p none held empty refl (contents start) (contents last) text done h) settle

  ends_begun : AppendsBeginning (joined m 0 none (contents start)) (joined n p held (contents last)) text → AppendsBeginning (contents start) (contents given) text
  ends_begun h =
      begun_given contents last given (contents start) (n ≡ m) text (same_by m n 0 p none held empty refl (contents start) (contents last) h.written h.appended)
      (shorter (contents start) (contents last) h.written h.rest text h.is (begun_by m n 0 p none held empty refl (contents start) (contents last) h.written h.appended))
      settle

  pub ends_ok : {E : Type 0} (r : Result (Unit {0}) E) → OnOk r (held ≡ []) → OnOk r (Appends (joined m 0 none (contents start)) (joined n p held (contents last)) text)
      → OnOk r (Appends (contents start) (contents given) text)
  ends_ok (Ok x) done h = ends_whole done h
  ends_ok (Err e) done h = tt

  pub ends_err : {E : Type 0} (r : Result (Unit {0}) E) → OnErr r (AppendsBeginning (joined m 0 none (contents start)) (joined n p held (contents last)) text)
      → OnErr r (AppendsBeginning (contents start) (contents given) text)
  ends_err (Ok x) h = tt
  ends_err (Err e) h = ends_begun h

-- ---- what is printed to a buffer

pub anyway : {A E : Type 0} {X : Type 0} (r : Result A E) → X → OnErr r X
anyway (Ok a) x = tt
anyway (Err e) x = x

pub part_of : (old new : Option (List ℕ)) (text : List ℕ) → AppendsPart old new text → AppendsBeginning old new text
part_of old new text h = record { written = h.written; rest = h.next ∷ h.rest; is = h.is; appended = h.appended }

pub all_of : (old new : Option (List ℕ)) (text : List ℕ) → Appends old new text → AppendsBeginning old new text
all_of old new text h = record { written = text; rest = []; is = sym (append-nil text); appended = h }

pub emptied : {W E : Type 0} (b : Buffer W) (r : Result (Unit {0}) E) → OnOk r (b.end ≡ 0) → OnOk r (held b ≡ [])
emptied b (Ok x) h = ap (λ k. take k b.room.now) h
emptied b (Err e) h = tt
