-- How the server goes on from message to message.
use Rattle.std.proofs.Common.{◌≡◌, ◌+◌, ◌-◌, ◌^◌, ℕ, List, Option, None, Some, refl, subst}
use Rattle.message_stream.specs.Header.{ReadsMessage}
use Rattle.message_stream.specs.declared.received.Received.{Received}
use Rattle.editor_language.specs.declared.mention.Mention.{Mention}
use Rattle.editor_language.specs.declared.parts.Analysis.{Analysis}
use Rattle.editor_language.specs.declared.parts.Choices.{Choices}
use Rattle.editor_language.specs.declared.parts.FileLink.{FileLink}
use Rattle.editor_language.specs.declared.parts.Finding.{Finding}
use Rattle.editor_language.specs.declared.parts.QuickFix.{QuickFix}
use Rattle.editor_language.specs.declared.parts.Run.{Run}
use Rattle.editor_messages.specs.declared.answer.Signature.{Signature}
use Rattle.editor_server.specs.Served.{Bytes, GoesOn, IsFresh, IsServed, Moment, Serves, Takes, after_all, after_one, at_start, one_more}
use Rattle.editor_server.specs.declared.server.Server.{Server}
use Rattle.editor_server.specs.declared.stream.TheConstants.{CUT_OFF, LIMIT}

module _ (knows : List ℕ → Analysis → Type 0) (finds : List ℕ → List ℕ → Analysis → List Finding → Type 0) (mentioned : List ℕ → Analysis → List Mention → Type 0) (formats : List ℕ → List ℕ → Type 0) (unformatted names : List ℕ → Type 0) (linked : Option (List ℕ) → List ℕ → Analysis → List FileLink → Type 0) (completed : List ℕ → List Mention → ℕ → Choices → Type 0) (fixed : List ℕ → List ℕ → Analysis → List QuickFix → Type 0) (signed : List ℕ → List Mention → ℕ → Option Signature → Type 0) (runs : List ℕ → Analysis → List Run → Type 0) (input output : Bytes) where
  -- so many messages after a fresh server, it goes on
  pub record Going (count : ℕ) (server : Server) (left written : Bytes) : Type 0 where
    pub first : Server
    pub fresh : IsFresh first
    pub goes : GoesOn knows finds mentioned formats unformatted names linked completed fixed signed runs (record { server = first; input = input; output = output }) count
        (record { server = server; input = left; output = written })

  pub begins : (server : Server) → IsFresh server → Going 0 server input output
  begins server fresh = record { first = server; fresh = fresh; goes = at_start }

  module _ (count : ℕ) (server next : Server) (left rest written more : Bytes) (received : Received) where
    serves : (exits : Option ℕ) → ReadsMessage left rest LIMIT received → Takes knows finds mentioned formats unformatted names linked completed fixed signed runs received server next written more exits
        → Serves knows finds mentioned formats unformatted names linked completed fixed signed runs exits (record { server = server; input = left; output = written }) (record { server = next; input = rest; output = more })
    serves exits reads takes = record { received = received; reads = reads; takes = takes }

    pub goes_on : (exits : Option ℕ) → exits ≡ None → Going count server left written → ReadsMessage left rest LIMIT received
        → Takes knows finds mentioned formats unformatted names linked completed fixed signed runs received server next written more exits → Going (count + 1) next rest more
    goes_on exits none going reads takes = record {
      first = going.first;
      fresh = going.fresh;
      goes =
          one_more count (record { server = server; input = left; output = written }) (record { server = next; input = rest; output = more }) going.goes
          (serves None reads (subst (Takes knows finds mentioned formats unformatted names linked completed fixed signed runs received server next written more) none takes));
    }

    pub exits_after_one : (exits : Option ℕ) (status : ℕ) → exits ≡ Some status → Going count server left written → ReadsMessage left rest LIMIT received
        → Takes knows finds mentioned formats unformatted names linked completed fixed signed runs received server next written more exits
        → IsServed knows finds mentioned formats unformatted names linked completed fixed signed runs input output status rest more
    exits_after_one exits status some going reads takes = record {
      first = going.first;
      fresh = going.fresh;
      count = count;
      now = record { server = server; input = left; output = written };
      goes = going.goes;
      last = next;
      exits = after_one (serves (Some status) reads (subst (Takes knows finds mentioned formats unformatted names linked completed fixed signed runs received server next written more) some takes));
    }

  pub exits_after_all : (count : ℕ) (server : Server) (left written : Bytes) → count ≡ 2 ^ 64 - 1 → Going count server left written
      → IsServed knows finds mentioned formats unformatted names linked completed fixed signed runs input output CUT_OFF left written
  exits_after_all count server left written all going = record {
    first = going.first;
    fresh = going.fresh;
    count = count;
    now = record { server = server; input = left; output = written };
    goes = going.goes;
    last = server;
    exits = after_all all refl refl;
  }
