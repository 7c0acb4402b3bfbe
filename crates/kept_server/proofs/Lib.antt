mod RestoreLaws
