use Rattle.session_laws.specs.Replying.{reply_line, reply_of}
use Rattle.session_laws.proofs.Flags.{flags_told, one_reply, one_list, one_front, one_ample}
use Rattle.session_laws.proofs.laws.replies.Goals as goal

pub returns-clause-one_line : goal.returns-clause-one_line
unfolding reply_line
returns-clause-one_line c earlier job = c.lines.ensures.one (reply_of earlier job)

pub returns-clause-told : goal.returns-clause-told
returns-clause-told c done waiting part next = flags_told c.lines.ensures.one c.lines.ensures.want c.replies.ensures.one c.replies.ensures.determined done waiting part next

pub returns-clause-one_reply : goal.returns-clause-one_reply
returns-clause-one_reply c earlier line came other is as_well same = one_reply c.lines.ensures.one c.lines.ensures.want c.replies.ensures.one c.replies.ensures.determined earlier line came other is as_well same

pub returns-clause-one_list : goal.returns-clause-one_list
returns-clause-one_list c asked written a b = one_list c.lines.ensures.one c.lines.ensures.want c.replies.ensures.one c.replies.ensures.determined asked written a b

pub returns-clause-one_front : goal.returns-clause-one_front
returns-clause-one_front c asked written a b = one_front c.lines.ensures.one c.lines.ensures.want c.replies.ensures.one c.replies.ensures.determined asked written a b

pub returns-clause-one_ample : goal.returns-clause-one_ample
returns-clause-one_ample c a b first second lines single ample other = one_ample c.lines.ensures.one c.lines.ensures.want c.replies.ensures.one c.replies.ensures.determined a b first second lines single ample other
