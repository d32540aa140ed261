-- One law for each way out of `J` and `L`, which ask for a strike to be listed: the judgement answers, and where it
-- refuses nothing the words decide for `L`. Assumes nothing.
use Prim.Native.Nat.{ℕ, ◌+◌, ◌<◌, ◌≤◌}
use mathlib.Core.Path.{◌≡◌, refl, sym, ap, ◌∙◌}
use mathlib.Core.Bool.{Bool, true, false, cond, not}
use mathlib.Core.List.{List, [], ◌∷◌}
use native.Mathlib.Omega.{arith}
use lib.Dec.{T}
use lib.ListN.{length}
use borrow.Author.Tests.{lt-ltb, le-ltb}
use Rattle.std.specs.Prelude.{Ok, Err}
use Rattle.word.specs.Answers.{Answer}
use Rattle.word.specs.declared.answer.Accepted.TheVariants.{Ground}
use Rattle.word.specs.declared.answer.Refusal.TheVariants.{OutOfWords}
use Rattle.word.specs.Answers.{is_accepted}
use Rattle.word.specs.Limits.{is_ground}
use Rattle.book.specs.Facts.{is_class_open, words_taken}
use Rattle.book.specs.Layout.{used, layout, facts_of}
use Rattle.book.specs.Books.{is_book}
use Rattle.book.specs.Views.{View, view_of, class, is_standing, setting, standing_in, ground_of}
use Rattle.book.specs.Changes.{new_series, strike_added, update, class_grown}
use Rattle.book.specs.Calls.{on, call_j, call_l, is_place, first_or, none_applies, judging, lacking, exceeding, effect_on, answer_to}
use Rattle.book.specs.Places.{has_expiration}
use Rattle.book.specs.Permission.{facts_with_strike}
use Rattle.book.specs.Made.{Made}
use Rattle.logic.proofs.Tests.{ands, true_T}
use Rattle.book.proofs.Keep.{ground_limit}
use Rattle.book.proofs.Layouts.{book_facts, used_taken}
use Rattle.book.proofs.Order.{granted_answer, first_accepted, first_append}
use Rattle.book.proofs.Splices.{words_listed}
use Rattle.book.proofs.Answered.{made_refused, made_accepted}
use Rattle.word.specs.declared.class.ClassRecord.{ClassRecord}
use Rattle.place.specs.declared.lookup.StrikeSearch.{StrikeSearch}
use Rattle.edit.specs.EditsAsked.{Insertable}
use Rattle.strike_call.specs.Judging.{Sought, judged}

-- a strike that is judged to have the ground g
pub record Permits (m h : ℕ) (v : View) (g : ℕ) : Type 0 where
  pub granted : none_applies (judging m h v) ≡ true
  pub absent : T (not (is_standing v m h))
  pub known : T (is_ground g)
  pub on_ground : ground_of v m h ≡ g

module _ (m h : ℕ) (v : View) where
  accepts : is_accepted (judged m h v) ≡ none_applies (judging m h v)
  accepts = first_accepted (Ok (Ground (ground_of v m h))) (judging m h v) refl

  pub permits : (g : ℕ) → judged m h v ≡ Ok (Ground g) → Permits m h v g
  permits g e =
      let accepted : is_accepted (judged m h v) ≡ true = ap is_accepted e in
      let none : T (none_applies (judging m h v)) = true_T (none_applies (judging m h v)) (sym accepts ∙ accepted) in
      let same : Ok (Ground (ground_of v m h)) ≡ Ok (Ground g) =
      sym (granted_answer (Ok (Ground (ground_of v m h))) (judging m h v) accepted) ∙ e in
      let on_ground : ground_of v m h ≡ g = cc in
      record {
        granted = sym accepts ∙ accepted;
        absent = search ands;
        known = rw (sym on_ground) (ground_limit (setting v m) (standing_in v m) h);
        on_ground = on_ground;
      }

  -- what is no ground refuses
  refuses : ((g : ℕ) → judged m h v ≡ Ok (Ground g) → ⊥) → none_applies (judging m h v) ≡ false
  refuses none = go (none_applies (judging m h v)) refl
    where
      go : (b : Bool) → none_applies (judging m h v) ≡ b → b ≡ false
      go true e =
          absurd
          (none (ground_of v m h) (granted_answer (Ok (Ground (ground_of v m h))) (judging m h v) (accepts ∙ e)))
      go false e = refl

-- a strike that was looked up and is permitted can be put at its place, where words are left for it
abbrev pub insertable :
    {w : List ℕ} {figures : ClassRecord} {r : StrikeSearch} {m h g : ℕ} (x : Sought w figures r m h)
    → Permits m h (view_of x.number (facts_of w)) g
    → used (facts_of w) + cond {A = ℕ} r.expiration 1 2 ≤ length w → Insertable w r.at r.expiration m h g
insertable x p room =
    record {
      book = x.book;
      month = x.month;
      strike = x.strike;
      on = p.known;
      class = x.number;
      is_open = x.is_open;
      absent = p.absent;
      place = ap (λ (y : StrikeSearch). y.at) x.place;
      expiration = ap (λ (y : StrikeSearch). y.expiration) x.place;
      room = room;
    }

module _ (w : List ℕ) (book : T (is_book w)) (c m h : ℕ) (l : not (is_place c m h) ≡ false) where
  abbrev seen : View
  seen = view_of c (facts_of w)

  -- ---- `J`

  pub judge_done : (r : Answer) → r ≡ judged m h seen → Made (on c (call_j m h)) w [] r w []
  unfolding answer_to effect_on
  judge_done r e = go (is_accepted r) refl
    where
      answer : answer_to (length w) 0 (on c (call_j m h)) (facts_of w) ≡ r
      answer = rw l (sym e)

      go : (b : Bool) → is_accepted r ≡ b → Made (on c (call_j m h)) w [] r w []
      go true k = made_accepted (on c (call_j m h)) w [] book r w k answer (sym (book_facts w book).1)
      go false k = made_refused (on c (call_j m h)) w [] book r k answer

  -- ---- `L`

  listing :
      answer_to (length w) 0 (on c (call_l m h)) (facts_of w)
      ≡ cond (none_applies (judging m h seen))
      (first_or (Ok (Ground (ground_of seen m h))) (lacking (length w) (facts_with_strike c m h (facts_of w)) ∷ []))
      (judged m h seen)
  unfolding answer_to effect_on
  listing =
      rw l
      (first_append (Ok (Ground (ground_of seen m h))) (judging m h seen)
      (lacking (length w) (facts_with_strike c m h (facts_of w)) ∷ exceeding 0 [] ∷ []))

  -- refused as `J` refuses
  pub list_refused :
      (r : Answer) → r ≡ judged m h seen → ((g : ℕ) → r ≡ Ok (Ground g) → ⊥) → Made (on c (call_l m h)) w [] r w []
  list_refused r e none =
      let refused = refuses m h seen (λ g d. none g (e ∙ d)) in
      made_refused (on c (call_l m h)) w [] book r (ap is_accepted e ∙ accepts m h seen ∙ refused)
      (listing ∙ rw refused (sym e))

  module _
      (o : T (is_class_open c (facts_of w).classes)) (g : ℕ) (p : Permits m h seen g) (needed : ℕ)
      (k : needed ≡ cond {A = ℕ} (has_expiration c m (facts_of w)) 1 2) where
    taken : words_taken (facts_with_strike c m h (facts_of w)) ≡ used (facts_of w) + needed
    unfolding class_grown
    taken =
        let f = facts_of w in
        let good = (book_facts w book).0 in
        omega (
          arith,
          words_listed (length w) f c (new_series m h (ground_of seen m h)) good o p.absent,
          used_taken f,
        )

    pub out_of_words :
        length w < used (facts_of w) + needed → Made (on c (call_l m h)) w [] (Err (OutOfWords 0)) w []
    out_of_words short =
        made_refused (on c (call_l m h)) w [] book (Err (OutOfWords 0)) refl
        (listing ∙ rw (p.granted, taken, lt-ltb (length w) (used (facts_of w) + needed) short))

    pub list_done :
        used (facts_of w) + needed ≤ length w → (w' : List ℕ)
        → w' ≡ layout (length w) (update (strike_added (new_series m h g) (class (facts_of w) c)) (facts_of w))
        → Made (on c (call_l m h)) w [] (Ok (Ground g)) w' []
    unfolding effect_on class_grown
    list_done left w' added =
        made_accepted (on c (call_l m h)) w [] book (Ok (Ground g)) w' refl
        (listing ∙ rw (p.granted, taken, le-ltb (length w) (used (facts_of w) + needed) left, p.on_ground))
        (added
        ∙ ap (λ (i : ℕ). layout (length w)
        (update (strike_added (new_series m h i) (class (facts_of w) c)) (facts_of w)))
        (sym p.on_ground))
