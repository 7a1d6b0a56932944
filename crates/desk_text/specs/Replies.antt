-- How the sender of a message is answered, in words.
use Rattle.std.specs.Prelude.{cond, [], ◌++◌}
use Rattle.laws.specs.Tests.{is}
use Rattle.paper.specs.declared.Reply.{Reply}
use Rattle.paper.specs.Layout.{Bytes}
use Rattle.paper.specs.Codes.{acknowledgement, uninterpretable_message}
use Rattle.paper.specs.Listing.{text}
use Rattle.desk_text.specs.Pieces.{code_text}

-- a refusal carries its reason code beside A02
unfoldable pub reason_text : (reply : Reply) → Bytes
reason_text reply = cond (is reply.status 1) [] (text " with" ++ code_text reply.code)

-- how the sender is answered: by an acknowledgement with its codes, or without one by the mail, or by the desk's own notice
unfoldable pub reply_text : (reply : Reply) → Bytes
reply_text reply =
    cond (is reply.kind acknowledgement) (text "; answered by" ++ code_text reply.status ++ reason_text reply)
    (cond (is reply.kind uninterpretable_message) (text "; answered by the uninterpretable-message mail") (text "; answered by a desk notice"))
