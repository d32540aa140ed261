pub mod CallReplies
